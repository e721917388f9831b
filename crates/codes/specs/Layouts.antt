-- How the cells of a strip carry its data.
--   Layout                                the cells and the data bits of a stage, and the code bits that its cells' levels show
--   one_bit                               two cells a stage, one bit a cell
--   stage_count, cell_count, byte_count   the stages, the cells and the bytes of a strip that takes L bytes of data
--   map_count                             the bytes of its part of a map with one bit for each cell
use Rattle.std.specs.Prelude.{List, map, ℕ, ◌*◌, ◌/◌, ◌%◌}

-- a stage has so many cells and so many data bits; by the levels of its cells, in their order, it shows one code bit for each generator
pub record Layout : Type 0 where
  pub cells : ℕ
  pub bits : ℕ
  pub shows : List ℕ → List ℕ

-- 'two cells for each stage'; 'A cell's own bit is its level mod 2.'
abbrev pub one_bit : Layout
one_bit = record { cells = 2; bits = 1; shows = map (λ l. l % 2) }

-- 'A strip takes L bytes of data .. It has 8·L stages': 8·L data bits, so many a stage
unfoldable pub stage_count : Layout → ℕ → ℕ
stage_count lay L = 8 * L / lay.bits

-- 'and two cells for each stage'
unfoldable pub cell_count : Layout → ℕ → ℕ
cell_count lay L = lay.cells * stage_count lay L

-- 'so 6·L bytes': three bits a cell
unfoldable pub byte_count : Layout → ℕ → ℕ
byte_count lay L = 3 * cell_count lay L / 8

-- 'A map with one bit for each cell of the page (strip by strip, 2·L·S bytes ..)' (document 02, K3): the bytes of a strip's part of it
unfoldable pub map_count : Layout → ℕ → ℕ
map_count lay L = cell_count lay L / 8
