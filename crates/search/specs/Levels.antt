-- The write of a strip by the levels of its cells, in the paper's words: no state, no digit, no trellis.
--   cell_at, level_at   a cell of a list, and a level of a list, by its place
--   CouldBe             levels that read as the data, with no level lowered and marked cells kept
--   pays                what the change costs
use Rattle.std.specs.Prelude.{◌≡◌, false, List, ℕ, ◌*◌, ◌<◌, length, get_or}
use Rattle.cells.specs.Places.{sum_of}
use Rattle.cells.specs.Climbs.{climb}
use Rattle.codes.specs.Generators.{Generators}
use Rattle.codes.specs.Layouts.{Layout}
use Rattle.codes.specs.Reading.{data_bit}
use Rattle.search.specs.Strip.{Steps, Cell, Rise}

-- cell i, or an empty one past the end
unfoldable pub cell_at : List Cell → ℕ → Cell
cell_at cells i = get_or cells i (record { level = 0; mark = false })

-- the level at place i, or 0 past the end
unfoldable pub level_at : List ℕ → ℕ → ℕ
level_at y i = get_or y i 0

-- levels that 'read as the data with no cell lowered': d is the data of n stages
pub record CouldBe (S : Steps) (lay : Layout) (G : Generators) (n : ℕ) (d : ℕ → ℕ) (old : List Cell) (y : List ℕ) : Type 0 where
  pub size : length y ≡ length old
  pub rises : (i : ℕ) → i < length old → Rise S (cell_at old i) (level_at y i)
  pub reads : (b : ℕ) → b < lay.bits * n → data_bit lay G (level_at y) b ≡ d b

-- 'the sum over its cells, each climbing from its level before the write'
unfoldable pub pays : Steps → List Cell → List ℕ → ℕ
pays S old y = sum_of (length old) (λ i. climb S.weight (cell_at old i).level (level_at y i))
