-- HOW OFTEN DATA BIT 0 OF A STRIP CHANGES between erases, which no code and no weights can help.
--   bit_zero       data bit 0 of strip k, as the page reads
--   changes        how often a bit that a page shows has changed since the page was last erased
--   most_changes   six
--   Turn           a write with a map, weights and a code of its own; turn_call, turn_answer
--   ChangesIt      a write in order that changes the bit
--   OneSpent       one of some answers says that the page is spent
use Rattle.std.specs.Prelude.{◌≡◌, List, ℕ, ◌<◌, ◌+◌, ◌*◌, ◌%◌}
use Rattle.std.proofs.Math.Option.{Option, none}
use Rattle.cells.specs.Bytes.{bit_of, Octets}
use Rattle.demand.specs.Reading.{read_page}
use Rattle.refusals.specs.Refusals.{numbered}
use Rattle.page_promises.specs.Writes.{ground_with, answer_with}
use Rattle.page_ledger.specs.Ledger.{Event, raised, erased, looked, Call, write}
use Rattle.page_answers.specs.declared.Answer.{Answer}
use Rattle.page_answers.specs.declared.Answer.TheVariants as A

-- data bit 0 of strip k in what the page reads as
unfoldable pub bit_zero : (code L S k : ℕ) → List ℕ → ℕ
bit_zero code L S k page = bit_of (read_page (numbered code) L S page) (8 * L * k)

-- the changes of a bit that a page shows since the page was last erased, or since the start; a list is one event, and counts by the page
-- that it leaves
abbrev pub changes : (shown : List ℕ → ℕ) → Event → List ℕ → ℕ → ℕ
changes shown (raised after) page n = n + (shown page + shown after) % 2
changes shown (erased after) page n = 0
changes shown looked page n = n

-- a strip's first two cells climb six steps together
abbrev pub most_changes : ℕ
most_changes = 6

-- a write of bytes, with a map or none, and weights and a code of its own
pub record Turn : Type 0 where
  pub map : Option (List ℕ)
  pub weights : List ℕ
  pub code : ℕ
  pub content : List ℕ
  pub octets : Octets content

-- the call, on a page of S strips
abbrev pub turn_call : ℕ → ℕ → Turn → Call
turn_call L S t = write t.map t.weights t.code L S t.content t.octets

-- what it answers
abbrev pub turn_answer : ℕ → ℕ → Turn → List ℕ → Answer
turn_answer L S t page = answer_with t.map t.weights t.code L S page t.content

-- it has no ground, and its data has another bit 0 of strip k than the page reads as by this code
pub record ChangesIt (code L S k : ℕ) (page : List ℕ) (t : Turn) : Type 0 where
  pub no_ground : ground_with t.map t.weights t.code L S page t.content ≡ none
  pub other : (bit_zero code L S k page + bit_of t.content (8 * L * k)) % 2 ≡ 1

-- one of the first n answers says that the page is spent
pub record OneSpent (n : ℕ) (answers : ℕ → Answer) : Type 0 where
  pub which : ℕ
  pub inside : which < n
  pub strip : ℕ
  pub is : answers which ≡ A.Spent strip
