-- THE WRITE of a strip of bytes, in a layout.
--   meaning_of lay   the code word that the levels of a stage mean
--   data_bits        the data of a strip as bits, a sequence for each generator after the first
--   unmarked         no cell is marked
--   stages_of        the stages of a strip
--   rewrite_of       the write: the new levels and their cost, or none
--   Sound lay G      what a layout and a code ask of each other
use Rattle.std.specs.Prelude.{◌≡◌, Bool, false, List, map, ℕ, suc, ◌+◌, ◌*◌, length}
use Rattle.std.proofs.Math.Option.{Option}
use Rattle.cells.specs.Bytes.{bit_of}
use Rattle.cells.specs.Levels.{level}
use Rattle.codes.specs.Generators.{Generators, digit}
use Rattle.codes.specs.Layouts.{Layout, stage_count, cell_count}
use Rattle.codes.specs.Sequences.{Bits, odd}
use Rattle.codes.specs.Encoders.{Encoder, encoder_of}
use Rattle.search.specs.Best.{Solution}
use Rattle.search.specs.Strip.{Cell, cells_of, steps_of, Meaning}
use Rattle.search.specs.Search.{Stage, stages, write}
use Rattle.search.specs.Choices.{choice_of}

-- the code bits that the levels of a stage show
unfoldable pub meaning_of : Layout → Meaning
meaning_of lay = record { cells = lay.cells; means = λ y. map odd (lay.shows y) }

-- bit j of stage t of the data
unfoldable pub data_bits : Layout → List ℕ → ℕ → Bits
data_bits lay content j t = odd (bit_of content (lay.bits * t + j))

-- no cell is marked
abbrev pub unmarked : ℕ → Bool
unmarked c = false

-- the cells of a strip of bytes for L bytes of data
unfoldable pub strip_cells : Layout → ℕ → List ℕ → (ℕ → Bool) → List Cell
strip_cells lay L strip marks = cells_of (cell_count lay L) (level strip) marks

-- its stages, by an encoder
unfoldable pub stages_of : Layout → Encoder → ℕ → List ℕ → (ℕ → Bool) → List ℕ → List Stage
stages_of lay E L strip marks content = stages E (data_bits lay content) lay.cells 0 (stage_count lay L) (strip_cells lay L strip marks)

-- THE WRITE of a strip: the best of all levels that read as the data, with no level lowered and marked cells kept
unfoldable pub rewrite_of : Layout → Generators → List ℕ → ℕ → List ℕ → (ℕ → Bool) → List ℕ → Option Solution
rewrite_of lay G W L strip marks content =
    write (encoder_of G) (data_bits lay content) (choice_of (steps_of W) (meaning_of lay)) lay.cells (stage_count lay L)
    (strip_cells lay L strip marks)

-- a code bit for each generator, by the levels of a stage; and G1 begins with 1, so that data can be divided by it
pub record Sound (lay : Layout) (G : Generators) : Type 0 where
  pub leads : digit G.memory G.g1 0 ≡ 1
  pub generators : length G.others ≡ lay.bits
  pub shown : (y : List ℕ) → length y ≡ lay.cells → length (lay.shows y) ≡ suc lay.bits
