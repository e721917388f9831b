-- The shape of a page: its limits, its strips, and input in order.
--   in_page                whether a strip lies in the page
--   strip_of               the strip, or the empty part where it does not
--   Lies                   where the strip's part lies in the page's memory
--   Found                  where the program finds the strip
--   map_part, strip_part   a strip's part of a map, and of a page
--   Sized                  a page and data of S strips of L bytes
--   Listed                 a page and a list of datas for it
use Rattle.std.specs.Prelude.{◌≡◌, Bool, true, cond, ◌&&◌, List, [], ℕ, suc, ◌+◌, ◌*◌, ◌-◌, ◌≤◌, leb, length, take, drop}
use Rattle.codes.specs.Layouts.{Layout, one_bit, byte_count, map_count}
use Rattle.demand.specs.Jobs.{part}
use Rattle.refusals.specs.Refusals.{one_to_64}
use Rattle.std.specs.declared.ops.Range.{Range}

-- L is within its limits, and the strip ends at the page's end or before it
unfoldable pub in_page : ℕ → ℕ → List ℕ → Bool
in_page L k page = one_to_64 L && leb (byte_count one_bit L * suc k) (length page)

-- 'The strip with a given number is a part of the caller's page'; 'L outside its limits, or a strip beyond the page's end, gives the empty
-- part.'
unfoldable pub strip_of : ℕ → ℕ → List ℕ → List ℕ
strip_of L k page = cond (in_page L k page) (part (byte_count one_bit L) k page) []

-- 'returned as that part and never copied': the part of a strip that lies in the page is in the page's own block of memory, 6·L·k bytes
-- behind its start. Where the empty part lies is free
pub record Lies (L k : ℕ) (bytes : List ℕ) (page strip : ℕ × ℕ) : Type 0 where
  pub block : in_page L k bytes ≡ true → strip.0 ≡ page.0
  pub offset : in_page L k bytes ≡ true → strip.1 ≡ page.1 + byte_count one_bit L * k

-- a place in a page of so many bytes, which is that of the strip in each such page
pub record Found (L k size : ℕ) (r : Range ℕ) : Type 0 where
  pub order : r.start ≤ r.end
  pub inside : r.end ≤ size
  pub is_strip : (page : List ℕ) → length page ≡ size → take (r.end - r.start) (drop r.start page) ≡ strip_of L k page
  pub starts : (page : List ℕ) → length page ≡ size → in_page L k page ≡ true → r.start ≡ byte_count one_bit L * k

-- strip k's part of a map
abbrev pub map_part : ℕ → ℕ → List ℕ → List ℕ
map_part L k map = part (map_count one_bit L) k map

-- strip k of a page
abbrev pub strip_part : ℕ → ℕ → List ℕ → List ℕ
strip_part L k page = part (byte_count one_bit L) k page

-- a page and data in order: what the functions behind the refusals ask
pub record Sized (lay : Layout) (L S : ℕ) (page content : List ℕ) : Type 0 where
  pub bytes_in : one_to_64 L ≡ true
  pub strips_in : one_to_64 S ≡ true
  pub page_is : length page ≡ byte_count lay L * S
  pub data_is : length content ≡ L * S

-- a page and a list of so many datas in order
pub record Listed (lay : Layout) (L S count : ℕ) (page content : List ℕ) : Type 0 where
  pub bytes_in : one_to_64 L ≡ true
  pub strips_in : one_to_64 S ≡ true
  pub page_is : length page ≡ byte_count lay L * S
  pub count_in : one_to_64 count ≡ true
  pub datas_are : length content ≡ count * (L * S)
