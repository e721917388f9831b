-- When a call is refused, and by which number.
--   one_to_64, is_code             the limits of L and of S; the codes' numbers
--   first_of                       of two grounds, the one that is tested first
--   limits_ground, sizes_ground    the grounds of L and S; of the code, L and S
--   free_step, weights_ground      whether a weight is 0, and the ground of that
--   band_ground                    the ground of a band
--   shape_ground, lengths_ground   the grounds of erase and census; of the lengths
--   count_given, map_given         the count and the length of the map that a call has, or none
--   map_ground                     the ground of a map's length, where there is a map
--   count_ground                   the ground of a list's count, where there is a list
--   data_count                     the bytes of data: of one write, or of a list of so many
--   ground                         the grounds of read
--   list_ground                    the grounds of price and write, of one data or a list, with a map or without
--   call_ground, write_ground      those of one data; and without a map
--   band_bytes, band_strips        L and S of a page that holds a value in a band
--   value_ground                   the grounds of a write in a band
--   directory_code, directory_bytes, directory_strips, directory_size   a block's directory: its code, its L and S, its bytes
--   page_bytes, block_size         the bytes of a page, and of a block of pages
--   pages_ground, block_ground     the grounds of the number of pages, and of a block's length
--   put_ground                     the grounds of a put, and from the input those of a get
--   live_ground                    from the state: a get whose directory names a page that is not there
--   too_cold, too_warm             an erase outside 50 to 400
--   erase_ground                   from the state: such an erase
--   erasing_ground                 the grounds of erase, with a map or without
--   block_erasing                  the grounds of the erase of a block
--   refusal_number                 the paper's number of a refusal
--   text_number                    the number of the refusal that no call has
--   completion_of                  done, or the refusal; completion_number, the paper's number of it
--   kept                           what a refusal leaves as it was
use Rattle.std.specs.Prelude.{Bool, cond, ◌&&◌, ◌||◌, List, ℕ, ◌+◌, ◌*◌, eqb, leb, ltb, ℤ, pos}
use Rattle.std.proofs.Math.Option.{Option, none, some}
use Rattle.std.specs.Int.Signed.{lt_z}
use Rattle.cells.specs.Climbs.{weight_of}
use Rattle.codes.specs.Generators.{Generators, short, long}
use Rattle.codes.specs.Layouts.{Layout, one_bit, byte_count, map_count}
use Rattle.refusals.specs.declared.Refusal.{Refusal}
use Rattle.refusals.specs.declared.Refusal.TheVariants.{CodeUnknown, BandOutside, BytesOutside, StripsOutside, PagesOutside}
use Rattle.refusals.specs.declared.Refusal.TheVariants.{WeightZero, CountOutside, PageLength, MapLength, DataLength}
use Rattle.refusals.specs.declared.Refusal.TheVariants.{EraseTemperature, PageMissing}
use Rattle.std.specs.declared.option.Option as Program
use Rattle.std.specs.declared.option.Option.TheVariants as Given
use Rattle.std.specs.Prelude.{Result, Ok, Err, ⊤}

-- 'L from 1 to 64'
unfoldable pub one_to_64 : ℕ → Bool
one_to_64 n = leb 1 n && leb n 64

-- a code is 3 or 7
unfoldable pub is_code : ℕ → Bool
is_code n = eqb n 3 || eqb n 7

-- 'Tested in this order': the first ground that applies
abbrev pub first_of : Option Refusal → Option Refusal → Option Refusal
first_of (some r) later = some r
first_of none later = later

-- '1: the code is neither 3 nor 7'
unfoldable pub code_ground : ℕ → Option Refusal
code_ground code = cond (is_code code) none (some CodeUnknown)

-- '2: L is not from 1 to 64'
unfoldable pub bytes_ground : ℕ → Option Refusal
bytes_ground L = cond (one_to_64 L) none (some BytesOutside)

-- '3: S is not from 1 to 64'
unfoldable pub strips_ground : ℕ → Option Refusal
strips_ground S = cond (one_to_64 S) none (some StripsOutside)

-- '4: the page is not 6·L·S bytes long': a strip of the layout has so many bytes for L bytes of data
unfoldable pub page_ground : Layout → ℕ → ℕ → ℕ → Option Refusal
page_ground lay L S size = cond (eqb size (byte_count lay L * S)) none (some PageLength)

-- a call's count, where it writes a list
abbrev pub count_given : Program.Option ℕ → Option ℕ
count_given Given.None = none
count_given (Given.Some n) = some n

-- the length of a call's map, where it has one
abbrev pub map_given : Program.Option ℕ → Option ℕ
map_given Given.None = none
map_given (Given.Some n) = some n

-- '11, the map has another length, tested after 4 and before 5'; 'calls without one mean a map with no cell marked'
abbrev pub map_ground : Layout → ℕ → ℕ → Option ℕ → Option Refusal
map_ground lay L S none = none
map_ground lay L S (some size) = cond (eqb size (map_count lay L * S)) none (some MapLength)

-- '10, a count outside 1 to 64', of a list; a single write has no count
abbrev pub count_ground : Option ℕ → Option Refusal
count_ground none = none
count_ground (some count) = cond (one_to_64 count) none (some CountOutside)

-- the data of a single write has L·S bytes; of a list 'its length must be the count times L·S'
abbrev pub data_count : Option ℕ → ℕ → ℕ → ℕ
data_count none L S = L * S
data_count (some count) L S = count * (L * S)

-- '5: the data, or the buffer for it, is not L·S bytes long'; for a list, not the count times that
unfoldable pub datas_ground : Option ℕ → ℕ → ℕ → ℕ → Option Refusal
datas_ground count L S size = cond (eqb size (data_count count L S)) none (some DataLength)

-- whether one of three weights is 0, so that a step is free
unfoldable pub free_step : List ℕ → Bool
free_step W = eqb (weight_of W 0) 0 || eqb (weight_of W 1) 0 || eqb (weight_of W 2) 0

-- '9, a weight is 0'
unfoldable pub weights_ground : List ℕ → Option Refusal
weights_ground W = cond (free_step W) (some WeightZero) none

-- '12, M above 8'
unfoldable pub band_ground : ℕ → Option Refusal
band_ground M = cond (leb M 8) none (some BandOutside)

-- 2 and 3: the limits of L and S
unfoldable pub limits_ground : ℕ → ℕ → Option Refusal
limits_ground L S = first_of (bytes_ground L) (strips_ground S)

-- 1 to 3: the code and the limits
unfoldable pub sizes_ground : ℕ → ℕ → ℕ → Option Refusal
sizes_ground code L S = first_of (code_ground code) (limits_ground L S)

-- 2, 3 and 4: 'erase and census take L, S and the page, and no code'
unfoldable pub shape_ground : ℕ → ℕ → ℕ → Option Refusal
shape_ground L S page = first_of (limits_ground L S) (page_ground one_bit L S page)

-- 4, 11 and 5, the lengths: of the page, perhaps of a map, and of the data of one write or a list
unfoldable pub lengths_ground : (count map : Option ℕ) → ℕ → ℕ → ℕ → ℕ → Option Refusal
lengths_ground count map L S page content =
    first_of (page_ground one_bit L S page) (first_of (map_ground one_bit L S map) (datas_ground count L S content))

-- 1 to 5, for read
unfoldable pub ground : ℕ → ℕ → ℕ → ℕ → ℕ → Option Refusal
ground code L S page content = first_of (sizes_ground code L S) (lengths_ground none none L S page content)

-- for price and write, with the weights W, perhaps a list's count and perhaps a map: 9 is 'tested after 3 and before 4', 10 'after 3 and 9
-- and before 4', 11 'after 4 and before 5'
unfoldable pub list_ground : (count map : Option ℕ) → List ℕ → ℕ → ℕ → ℕ → ℕ → ℕ → Option Refusal
list_ground count map W code L S page content =
    first_of (sizes_ground code L S)
    (first_of (weights_ground W) (first_of (count_ground count) (lengths_ground count map L S page content)))

-- of one data
abbrev pub call_ground : Option ℕ → List ℕ → ℕ → ℕ → ℕ → ℕ → ℕ → Option Refusal
call_ground map W code L S page content = list_ground none map W code L S page content

-- 'calls without one': those without a map
abbrev pub write_ground : List ℕ → ℕ → ℕ → ℕ → ℕ → ℕ → Option Refusal
write_ground W code L S page content = call_ground none W code L S page content

-- a value in a band is stored 'on a page with L = 2 and S = 1 (12 bytes)'
abbrev pub band_bytes : ℕ
band_bytes = 2

abbrev pub band_strips : ℕ
band_strips = 1

-- 1, 12 and 4, for a write in a band: 12 is 'tested after 1 and before 4'
unfoldable pub value_ground : (code M page : ℕ) → Option Refusal
value_ground code M page = first_of (code_ground code) (first_of (band_ground M) (page_ground one_bit band_bytes band_strips page))

-- 'A block has a directory strip (code 3, L = 1, 6 bytes)': a page of one strip
abbrev pub directory_code : ℕ
directory_code = 3

abbrev pub directory_bytes : ℕ
directory_bytes = 1

abbrev pub directory_strips : ℕ
directory_strips = 1

-- the bytes of a page
abbrev pub page_bytes : ℕ → ℕ → ℕ
page_bytes L S = byte_count one_bit L * S

-- of the directory
abbrev pub directory_size : ℕ
directory_size = 6

-- 'and then 2 to 16 pages of one shape': the bytes of a block, 6 + P·6·L·S
abbrev pub block_size : (L S P : ℕ) → ℕ
block_size L S P = directory_size + page_bytes L S * P

-- '13, the number of pages is not 2 to 16'
unfoldable pub pages_ground : ℕ → Option Refusal
pages_ground P = cond (leb 2 P && leb P 16) none (some PagesOutside)

-- 'Refusal 4 compares with the whole block's length.'
unfoldable pub block_ground : (L S P block : ℕ) → Option Refusal
block_ground L S P block = cond (eqb block (block_size L S P)) none (some PageLength)

-- 1, 2, 3, 13, 4 and 5, for a put, and from the input for a get: 13 is 'tested after 3'
unfoldable pub put_ground : (code L S P block content : ℕ) → Option Refusal
put_ground code L S P block content =
    first_of (sizes_ground code L S) (first_of (pages_ground P) (first_of (block_ground L S P block) (datas_ground none L S content)))

-- '14, from the state, a get whose directory names a page that isn't there': the pages are numbered from 0
unfoldable pub live_ground : (P live : ℕ) → Option Refusal
live_ground P live = cond (ltb live P) none (some PageMissing)

-- 'From 50 to 400, both included', in tenths of a degree Celsius
unfoldable pub too_cold : ℤ → Bool
too_cold tenths = lt_z tenths (pos 50)

unfoldable pub too_warm : ℤ → Bool
too_warm tenths = lt_z (pos 400) tenths

-- '8: an erase outside 50 to 400', 'tested after those of the input'
unfoldable pub erase_ground : ℤ → Option Refusal
erase_ground tenths = cond (too_cold tenths || too_warm tenths) (some EraseTemperature) none

-- for erase, perhaps with a map: 11 is 'tested after 4', and 8 'after those of the input'
unfoldable pub erasing_ground : Option ℕ → ℕ → ℕ → ℕ → ℤ → Option Refusal
erasing_ground map L S page tenths = first_of (shape_ground L S page) (first_of (map_ground one_bit L S map) (erase_ground tenths))

-- for the erase of a block, 'whole, under the certificate': 2, 3, 13, 4 and 8
unfoldable pub block_erasing : (L S P block : ℕ) → ℤ → Option Refusal
block_erasing L S P block tenths =
    first_of (limits_ground L S) (first_of (pages_ground P) (first_of (block_ground L S P block) (erase_ground tenths)))

-- the paper's number of each refusal
abbrev pub refusal_number : Refusal → ℕ
refusal_number CodeUnknown = 1
refusal_number BytesOutside = 2
refusal_number StripsOutside = 3
refusal_number PageLength = 4
refusal_number DataLength = 5
refusal_number EraseTemperature = 8
refusal_number WeightZero = 9
refusal_number CountOutside = 10
refusal_number MapLength = 11
refusal_number BandOutside = 12
refusal_number PagesOutside = 13
refusal_number PageMissing = 14

-- '6: text of the program is not in its form': the run program's own, so no member of the enum, which a call could answer
abbrev pub text_number : ℕ
text_number = 6

-- the generators of a code's number, where it is one
unfoldable pub numbered : ℕ → Generators
numbered code = cond (eqb code 3) short long

-- 'Read, erase and census answer done or the refusal.'
abbrev pub completion_of : Option Refusal → Result ⊤ Refusal
completion_of none = Ok tt
completion_of (some r) = Err r

-- the number of a completion
abbrev pub completion_number : Result ⊤ Refusal → ℕ
completion_number (Ok done) = 0
completion_number (Err r) = refusal_number r

-- 'Page, data and buffers are unchanged' with any refusal
abbrev pub kept : {A : Type 0} → Option Refusal → A → A → A
kept none done before = done
kept (some r) done before = before
