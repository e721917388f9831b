-- Reading a page.
--   strip_levels n page k    the levels of the cells of strip k, which has n of them
--   read_by lay G L S page   the bytes that a page reads as; read_page, one bit a cell
use Rattle.std.specs.Prelude.{List, ℕ, ◌+◌, ◌*◌, ◌/◌, ◌%◌}
use Rattle.cells.specs.Bytes.{bytes_of}
use Rattle.cells.specs.Levels.{level}
use Rattle.codes.specs.Generators.{Generators}
use Rattle.codes.specs.Layouts.{Layout, one_bit, cell_count}
use Rattle.codes.specs.Reading.{data_bit}

-- cell c of strip k is cell n·k + c of the page
unfoldable pub strip_levels : ℕ → List ℕ → ℕ → ℕ → ℕ
strip_levels n page k c = level page (n * k + c)

-- 'Strips are independent, and a page reads as the data whose bits are these sums': 8·L of them for each strip
unfoldable pub read_by : Layout → Generators → ℕ → ℕ → List ℕ → List ℕ
read_by lay G L S page = bytes_of (L * S) (λ n. data_bit lay G (strip_levels (cell_count lay L) page (n / (8 * L))) (n % (8 * L)))

-- one bit a cell: 'a page reads as the data whose bits are these sums'
unfoldable pub read_page : Generators → ℕ → ℕ → List ℕ → List ℕ
read_page G L S page = read_by one_bit G L S page
