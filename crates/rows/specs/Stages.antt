-- The stages of a strip in the plain search, and their prices.
--   encoder_for, label_for, cell_for   the encoder, the label of a stage, and a cell of a strip
--   stage_for, quote_for               a stage of a strip, and the prices of its words
use Rattle.std.specs.Prelude.{Bool, List, [], ◌∷◌, ℕ, ◌+◌, ◌*◌}
use Rattle.cells.specs.Levels.{level}
use Rattle.codes.specs.Generators.{Generators}
use Rattle.codes.specs.Layouts.{one_bit}
use Rattle.codes.specs.Registers.{quotient}
use Rattle.codes.specs.Encoders.{Encoder, encoder_of}
use Rattle.search.specs.Strip.{Cell, steps_of}
use Rattle.search.specs.Search.{Stage, with_memory}
use Rattle.search.specs.Layouts.{data_bits}
use Rattle.search.specs.Plain.{Prices}
use Rattle.search.specs.OneBit.{one_bit_prices}

-- the encoder, its states as wide as the code's memory
abbrev pub encoder_for : Generators → Encoder
encoder_for G = with_memory G.memory (encoder_of G)

-- the label of stage t as a bit
abbrev pub label_for : Generators → List ℕ → ℕ → Bool
label_for G content t = quotient G.memory (encoder_of G).first (data_bits one_bit content 0) t

-- cell c of a strip, by its level and its mark
abbrev pub cell_for : List ℕ → (ℕ → Bool) → ℕ → Cell
cell_for strip marks c = record { level = level strip c; mark = marks c }

-- stage t of a strip
abbrev pub stage_for : Generators → List ℕ → (ℕ → Bool) → List ℕ → ℕ → Stage
stage_for G strip marks content t =
    record { adds = label_for G content t ∷ []; cells = cell_for strip marks (2 * t) ∷ cell_for strip marks (2 * t + 1) ∷ [] }

-- the prices of its words
abbrev pub quote_for : List ℕ → Stage → Prices
quote_for W = one_bit_prices (steps_of W)
