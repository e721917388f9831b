-- The codes: their memories and generators, and a generator's digits.
--   Generators    a code's memory, G1, and the generators after it
--   g2 G          the second generator
--   short, long   the codes 3 and 7
--   digit m g i   digit i of the generator g of a code with memory m
use Rattle.std.specs.Prelude.{List, [], ◌∷◌, ℕ, ◌-◌, ◌/◌, ◌%◌, ◌^◌, get_or}

-- 'A code has memory m and two generators': G1, and one more for each data bit of a stage
pub record Generators : Type 0 where
  pub memory : ℕ
  pub g1 : ℕ
  pub others : List ℕ

-- the second generator
abbrev pub g2 : Generators → ℕ
g2 G = get_or G.others 0 0

-- 'Code 3 (short): m = 2, G1 = 7, G2 = 5', 'written in octal'
abbrev pub short : Generators
short = record { memory = 2; g1 = 0o7; others = 0o5 ∷ [] }

-- 'Code 7 (long): m = 6, G1 = 171, G2 = 133'
abbrev pub long : Generators
long = record { memory = 6; g1 = 0o171; others = 0o133 ∷ [] }

-- 'of a generator's m + 1 binary digits the leftmost belongs to the present stage, the next to the stage before it, and so on'
unfoldable pub digit : ℕ → ℕ → ℕ → ℕ
digit m g i = (g / 2 ^ (m - i)) % 2
