-- What a write is asked: a page, its data, and how the cells carry it.
--   part n k bytes      part k of parts of n bytes
--   Job                 layout, code, weights, marked cells, L, S, the page before and the data
--   width, page_cells   the cells of a strip of the job, and of its page
--   strip_job J k       strip k of a job, as a job of one strip
--   Whole, InOrder      sizes that fit, and a job whose input is in order
use Rattle.std.specs.Prelude.{◌≡◌, Bool, List, ℕ, ◌+◌, ◌*◌, length, take, drop}
use Rattle.cells.specs.Bytes.{Octets}
use Rattle.codes.specs.Generators.{Generators}
use Rattle.codes.specs.Layouts.{Layout, stage_count, cell_count, byte_count}
use Rattle.search.specs.Layouts.{Sound}

-- 'A page has S strips .. one after another'; 'Its data has L·S bytes, strip 0 first': part k of parts of n bytes
unfoldable pub part : ℕ → ℕ → List ℕ → List ℕ
part n k bytes = take n (drop (n * k) bytes)

-- what a write is asked; `marks` says of each cell of the page whether it must stay
pub record Job : Type 0 where
  pub layout : Layout
  pub code : Generators
  pub weights : List ℕ
  pub marks : ℕ → Bool
  pub bytes : ℕ
  pub strips : ℕ
  pub page : List ℕ
  pub content : List ℕ

-- the cells of a strip
abbrev pub width : Job → ℕ
width J = cell_count J.layout J.bytes

-- the cells of the page
abbrev pub page_cells : Job → ℕ
page_cells J = width J * J.strips

-- strip k alone: its own bytes, its own marks and its own part of the data
unfoldable pub strip_job : Job → ℕ → Job
strip_job J k = record {
  layout = J.layout;
  code = J.code;
  weights = J.weights;
  marks = λ c. J.marks (width J * k + c);
  bytes = J.bytes;
  strips = 1;
  page = part (byte_count J.layout J.bytes) k J.page;
  content = part J.bytes k J.content;
}

-- the cells of a strip fill its bytes, and its stages take its data
pub record Whole (lay : Layout) (L : ℕ) : Type 0 where
  pub cells_fill : 3 * cell_count lay L ≡ 8 * byte_count lay L
  pub stages_fill : lay.bits * stage_count lay L ≡ 8 * L

-- a job whose input is in order
pub record InOrder (J : Job) : Type 0 where
  pub sound : Sound J.layout J.code
  pub whole : Whole J.layout J.bytes
  pub page_is : length J.page ≡ byte_count J.layout J.bytes * J.strips
  pub data_is : length J.content ≡ J.bytes * J.strips
  pub octets : Octets J.content
