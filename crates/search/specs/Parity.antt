-- ONE BIT A CELL: a cell's bit is its level mod 2; the choice keeps a cell or raises it by one.
--   parity n        the meaning of n cells a stage
--   One S x b       the problem of one cell that must show the bit b
--   keep-or-raise   its choice
--   parity-choice   a stage's choice: each cell's
use Rattle.std.specs.Prelude.{◌≡◌, Bool, cond, List, [], ◌∷◌, map, ℕ, suc, ltb}
use Rattle.std.specs.Bool.{beq}
use Rattle.std.proofs.Math.Option.{Option, none, some}
use Rattle.cells.specs.Climbs.{climb}
use Rattle.codes.specs.Sequences.{odd}
use Rattle.search.specs.Best.{Solution}
use Rattle.search.specs.Trellis.{joined, free}
use Rattle.search.specs.Strip.{Steps, Cell, Rise, Meaning}
use Rattle.search.specs.Search.{Choice}

-- 'A cell's own bit is its level mod 2': n cells, a bit each
abbrev pub parity : ℕ → Meaning
parity n = record { cells = n; means = map odd }

-- one cell that is to hold the bit b
pub record One (S : Steps) (x : Cell) (b : Bool) (c : ℕ) (y : List ℕ) : Type 0 where
  pub to : ℕ
  pub one : y ≡ to ∷ []
  pub rises : Rise S x to
  pub bit : odd to ≡ b
  pub cost : c ≡ climb S.weight x.level to

-- its choice: keep the level, or raise it by one where it is unmarked and below the top, or closed
unfoldable pub keep-or-raise : Steps → Cell → Bool → Option Solution
keep-or-raise S x b =
    cond (ltb S.top x.level) none
    (cond (beq (odd x.level) b) (some (record { cost = 0; levels = x.level ∷ [] }))
    (cond x.mark none
    (cond (ltb x.level S.top) (some (record { cost = S.weight x.level; levels = suc x.level ∷ [] })) none)))

-- a stage's choice: each cell's, one after the other
unfoldable pub parity-choice : Steps → Choice
parity-choice S [] [] = some free
parity-choice S [] (b ∷ w) = none
parity-choice S (x ∷ xs) [] = none
parity-choice S (x ∷ xs) (b ∷ w) = joined (keep-or-raise S x b) (parity-choice S xs w)
