-- An encoder of any memory with any number of generators, its digits as bits: what the laws are about.
--   Encoder          the memory and the digits of G_1, .. G_n
--   InMemory E       no generator reaches back more than the memory
--   digit_bits m g   the m + 1 digits of a generator, as bits
--   encoder_of G     the encoder of the paper's numbers
--   Proper G         the memory is not 0, and G1's first digit is 1
use Rattle.std.specs.Prelude.{◌≡◌, Bool, List, map, ℕ, suc, ◌<◌, ◌≤◌, length}
use Rattle.cells.specs.Places.{list_of, Each}
use Rattle.codes.specs.Generators.{Generators, digit}
use Rattle.codes.specs.Sequences.{odd}

-- an encoder with n code bits a stage: its memory, G_1's digits after digit 0, which is 1, and the digits of G_2 .. G_n
pub record Encoder : Type 0 where
  pub memory : ℕ
  pub first : List Bool
  pub others : List (List Bool)

-- no generator reaches back more than the memory
pub record InMemory (E : Encoder) : Type 0 where
  pub first_fits : length E.first ≤ E.memory
  pub others_fit : Each (λ G. length G ≤ suc E.memory) E.others

-- the digits of a generator, as bits
abbrev pub digit_bits : ℕ → ℕ → List Bool
digit_bits m g = list_of (suc m) (λ i. odd (digit m g i))

-- the encoder of a code's generators
unfoldable pub encoder_of : Generators → Encoder
encoder_of G = record {
  memory = G.memory;
  first = list_of G.memory (λ i. odd (digit G.memory G.g1 (suc i)));
  others = map (λ g. digit_bits G.memory g) G.others;
}

-- generators by which data can be divided: the memory is not 0, and G1's first digit is 1
pub record Proper (G : Generators) : Type 0 where
  pub some_memory : 0 < G.memory
  pub leads : digit G.memory G.g1 0 ≡ 1
