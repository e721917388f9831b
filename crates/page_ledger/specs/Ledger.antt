-- The ledger of a page: its levels count the raises since it was last erased, and the levels of the marked cells, which no erase empties.
-- The ledger of a block of pages is the same, of puts: the bytes of the block are the page.
--   cells_on              every cell of a page of so many bytes
--   raises_made           the steps that the cells climb from one page to another
--   Event, Fair           what can happen to a page, and what is asked of it
--   page_after, counted   the page after an event, and the raises since the page was last erased
--   Call, event_of        a call on the page, and what it does
--   Marking               a call under these marks
--   marked_levels         the sum of the levels of the marked cells
--   Reply, answer_to      what a write answers, in a band or not, or a list, or a put
--   played                the page after a sequence of calls
--   tally, tallied        a count after it, and that of the raises
--   answered              what its writes, lists and puts answer
--   writes_of             the first datas of a list as single writes
use Rattle.std.specs.Prelude.{◌≡◌, Bool, cond, List, [], ◌∷◌, ◌++◌, ℕ, suc, ◌+◌, ◌*◌, ◌-◌, ◌/◌, ◌<◌, ◌≤◌, ℤ, length, replicate}
use Rattle.std.proofs.Math.Option.{Option, none}
use Rattle.cells.specs.Places.{list_of, sum_of}
use Rattle.cells.specs.Bytes.{Octets}
use Rattle.cells.specs.Levels.{level, raises_of}
use Rattle.cells.specs.Marks.{emptied}
use Rattle.refusals.specs.Refusals.{erasing_ground, block_erasing, kept}
use Rattle.page_promises.specs.Writes.{marked_by, map_size, answer_with, page_with}
use Rattle.page_promises.specs.Lists.{data_of, list_with}
use Rattle.page_promises.specs.Band.{band_answer, band_page_by}
use Rattle.block_promises.specs.Block.{put_answer, block_by}
use Rattle.refusals.specs.declared.Refusal.{Refusal}
use Rattle.page_answers.specs.declared.Answer.{Answer}
use Rattle.page_answers.specs.declared.ListAnswer.{ListAnswer}
use Rattle.page_answers.specs.declared.BandAnswer.{BandAnswer}

-- every cell of a page of so many bytes
unfoldable pub cells_on : List ℕ → ℕ
cells_on page = 8 * length page / 3

-- 'A write's raises are the steps its cells climb.'
unfoldable pub raises_made : List ℕ → List ℕ → ℕ
raises_made before after = sum_of (cells_on before) (λ c. level after c - level before c)

-- what happens to a page: it becomes another with cells raised, it is erased and becomes another, or it stays
pub data Event : Type 0 where
  raised : List ℕ → Event
  erased : List ℕ → Event
  looked : Event

-- a raise keeps the length and lowers no cell; an erase leaves a page whose levels add up to `base`, those of the cells that it cannot
-- empty
pub data Fair (base : ℕ) (before : List ℕ) : Event → Type 0 where
  fair_raise : {after : List ℕ} → length after ≡ length before → ((c : ℕ) → c < cells_on before → level before c ≤ level after c)
      → Fair base before (raised after)
  fair_erase : {after : List ℕ} → raises_of (cells_on after) after ≡ base → Fair base before (erased after)
  fair_look : Fair base before looked

-- the page after an event
abbrev pub page_after : Event → List ℕ → List ℕ
page_after (raised after) page = after
page_after (erased after) page = after
page_after looked page = page

-- 'the raises made by accepted writes since the last accepted erase, or since the start'
abbrev pub counted : Event → List ℕ → ℕ → ℕ
counted (raised after) page n = n + raises_made page after
counted (erased after) page n = 0
counted looked page n = n

-- 'any sequence of calls on that page alone', with any weights, each with a map or without one: the data of a write is bytes, and so are
-- the datas of a list; the value of a write in a band has 16 bits; read, price and census change nothing. On a block of P pages: a put,
-- whose data is bytes, and the erase of the block; a get changes nothing
pub data Call : Type 0 where
  write : (map : Option (List ℕ)) (W : List ℕ) (code L S : ℕ) (content : List ℕ) → Octets content → Call
  list : (map : Option (List ℕ)) (W : List ℕ) (code L S count : ℕ) (content : List ℕ) → Octets content → Call
  band : (code v M : ℕ) → v ≤ 65535 → Call
  erase : (map : Option (List ℕ)) (L S : ℕ) (tenths : ℤ) → Call
  put : (code L S P : ℕ) (content : List ℕ) → Octets content → Call
  erase_block : (L S P : ℕ) (tenths : ℤ) → Call
  look : Call

-- the cells of a page of n of them that a call's map marks are these; a write in a band has 'no marked cells', nor has a put or the erase
-- of a block; 'read and census' take no map
pub data Marking (n : ℕ) (marks : ℕ → Bool) : Call → Type 0 where
  writes : {map : Option (List ℕ)} {W : List ℕ} {code L S : ℕ} {content : List ℕ} {b : Octets content}
      → ((c : ℕ) → c < n → marked_by map c ≡ marks c) → Marking n marks (write map W code L S content b)
  lists : {map : Option (List ℕ)} {W : List ℕ} {code L S count : ℕ} {content : List ℕ} {b : Octets content}
      → ((c : ℕ) → c < n → marked_by map c ≡ marks c) → Marking n marks (list map W code L S count content b)
  bands : {code v M : ℕ} {b : v ≤ 65535} → ((c : ℕ) → c < n → marked_by none c ≡ marks c) → Marking n marks (band code v M b)
  erases : {map : Option (List ℕ)} {L S : ℕ} {tenths : ℤ} → ((c : ℕ) → c < n → marked_by map c ≡ marks c)
      → Marking n marks (erase map L S tenths)
  puts : {code L S P : ℕ} {content : List ℕ} {b : Octets content} → ((c : ℕ) → c < n → marked_by none c ≡ marks c)
      → Marking n marks (put code L S P content b)
  block_erases : {L S P : ℕ} {tenths : ℤ} → ((c : ℕ) → c < n → marked_by none c ≡ marks c) → Marking n marks (erase_block L S P tenths)
  looks : Marking n marks look

-- why an erase is refused
abbrev pub erasing : Option (List ℕ) → ℕ → ℕ → ℤ → List ℕ → Option Refusal
erasing map L S tenths page = erasing_ground (map_size map) L S (length page) tenths

-- the sum of the levels of the marked cells
unfoldable pub marked_levels : (ℕ → Bool) → List ℕ → ℕ
marked_levels marks page = sum_of (cells_on page) (λ c. cond (marks c) (level page c) 0)

-- what a call does to the page: a refused write leaves it, and so makes no raise, in a band or not; nor does a refused list or put. Its
-- raises start where the release that makes it says
unfoldable pub event_of : (start : ℕ → ℕ) → Call → List ℕ → Event
event_of start (write map W code L S content b) page = raised (page_with map W code L S page content start)
event_of start (list map W code L S count content b) page = raised (list_with map W code L S count page content start).page
event_of start (band code v M b) page = raised (band_page_by code page v M start)
event_of start (erase map L S tenths) page = kept (erasing map L S tenths page) (erased (emptied (marked_by map) page)) looked
event_of start (put code L S P content b) page = raised (block_by code L S P page content start)
event_of start (erase_block L S P tenths) page =
    kept (block_erasing L S P (length page) tenths) (erased (replicate (length page) 0)) looked
event_of start look page = looked

-- the answer of a write or of a put, of a list, or of a write in a band
pub data Reply : Type 0 where
  to_write : Answer → Reply
  to_list : ListAnswer → Reply
  to_band : BandAnswer → Reply

-- what a call answers, if it is one of these
abbrev pub answer_to : (start : ℕ → ℕ) → Call → List ℕ → List Reply
answer_to start (write map W code L S content b) page = to_write (answer_with map W code L S page content) ∷ []
answer_to start (list map W code L S count content b) page = to_list (list_with map W code L S count page content start).answer ∷ []
answer_to start (band code v M b) page = to_band (band_answer code page v M) ∷ []
answer_to start (erase map L S tenths) page = []
answer_to start (put code L S P content b) page = to_write (put_answer code L S P page content) ∷ []
answer_to start (erase_block L S P tenths) page = []
answer_to start look page = []

-- a sequence of calls, the first one first; `starts n` is where the raises of call n start, so that releases of any order can take turns
unfoldable pub played : (starts : ℕ → ℕ → ℕ) → List Call → List ℕ → List ℕ
played starts [] page = page
played starts (c ∷ cs) page = played (λ n. starts (suc n)) cs (page_after (event_of (starts 0) c page) page)

-- a count after it: `count` says what an event on a page makes of it
unfoldable pub tally : (count : Event → List ℕ → ℕ → ℕ) (starts : ℕ → ℕ → ℕ) → List Call → List ℕ → ℕ → ℕ
tally count starts [] page n = n
tally count starts (c ∷ cs) page n =
    tally count (λ n. starts (suc n)) cs (page_after (event_of (starts 0) c page) page) (count (event_of (starts 0) c page) page n)

-- the count of the raises
abbrev pub tallied : (starts : ℕ → ℕ → ℕ) → List Call → List ℕ → ℕ → ℕ
tallied = tally counted

-- and what its writes, lists and puts answer
unfoldable pub answered : (starts : ℕ → ℕ → ℕ) → List Call → List ℕ → List Reply
answered starts [] page = []
answered starts (c ∷ cs) page =
    answer_to (starts 0) c page ++ answered (λ n. starts (suc n)) cs (page_after (event_of (starts 0) c page) page)

-- 'single writes in that order': the first n datas of a list, each of which is bytes
unfoldable pub writes_of : (map : Option (List ℕ)) (W : List ℕ) (code L S : ℕ) (content : List ℕ)
    → ((i : ℕ) → Octets (data_of L S content i)) → (n : ℕ) → List Call
writes_of map W code L S content octets n = list_of n (λ i. write map W code L S (data_of L S content i) (octets i))
