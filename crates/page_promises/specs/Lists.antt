-- A LIST OF WRITES in one call: single writes in turn, as far as the page takes them.
--   data_of                    data number n of a list
--   with_write, refused_list   an answer with one more single write; that of a refused list
--   Course, course_after       the page and the answer after single writes in turn, whatever a single write does
--   job_course                 those of jobs in order
--   list_course, list_with     the page and the answer of a list, with a map or without one, by any order of the raises
--   list_answer, list_page     those of this release
--   list_most                  a list costs at most this, by its size and weights
--   largest_list_cost          and this, whatever they are
--   ListBounds                 how large the fields of its answer are
--   InTurn, ListPromised       what a list promises: the promise of each single write
--   WroteList                  the same of a call
use Rattle.std.specs.Prelude.{◌≡◌, Bool, true, false, cond, List, ℕ, zero, suc, ◌+◌, ◌*◌, ◌<◌, ◌≤◌, length}
use Rattle.std.proofs.Math.Option.{Option, none, some}
use Rattle.cells.specs.Raising.{start_of}
use Rattle.cells.specs.Climbs.{weight_of}
use Rattle.codes.specs.Generators.{Generators}
use Rattle.refusals.specs.Refusals.{list_ground}
use Rattle.demand.specs.Jobs.{part}
use Rattle.page_promises.specs.Writes.{one_bit_job, job_answer, job_page, map_size, answer_with, page_with}
use Rattle.page_promises.specs.Promise.{WroteBy}
use Rattle.refusals.specs.declared.Refusal.{Refusal}
use Rattle.page_answers.specs.Answers.{list_strip}
use Rattle.page_answers.specs.declared.Answer.{Answer}
use Rattle.page_answers.specs.declared.Answer.TheVariants as A
use Rattle.page_answers.specs.declared.End.{End}
use Rattle.page_answers.specs.declared.End.TheVariants as E
use Rattle.page_answers.specs.declared.ListAnswer.{ListAnswer}

-- 'datas for the same page, one after another in one slice'
abbrev pub data_of : ℕ → ℕ → List ℕ → ℕ → List ℕ
data_of L S content n = part (L * S) n content

-- 'the number written and the summed cost', with one more single write
abbrev pub with_write : ListAnswer → Answer → ListAnswer
with_write a (A.Done cost) = record { written = suc a.written; cost = a.cost + cost; end = E.Done }
with_write a (A.Spent strip) = record { written = a.written; cost = a.cost; end = E.Spent strip }
with_write a (A.Refused r) = record { written = a.written; cost = a.cost; end = E.Refused r }

-- nothing written yet
abbrev pub none_written : ListAnswer
none_written = record { written = 0; cost = 0; end = E.Done }

-- 'With every other refusal the number written is 0.'
abbrev pub refused_list : Refusal → ListAnswer
refused_list r = record { written = 0; cost = 0; end = E.Refused r }

-- the page and the answer so far
pub record Course : Type 0 where
  pub page : List ℕ
  pub answer : ListAnswer

-- whether a list has ended before its last data
abbrev pub has_ended : End → Bool
has_ended E.Done = false
has_ended (E.Spent strip) = true
has_ended (E.Refused r) = true

-- 'equal those of single writes in that order': `answers` and `pages` are the answer of a single write and the page after it, by the page
-- before it and its data
module _ (answers : List ℕ → List ℕ → Answer) (pages : List ℕ → List ℕ → List ℕ) where
  -- one more data: a single write on the page that the writes before it left, unless the list has ended
  abbrev pub after_one : Course → List ℕ → Course
  after_one c one =
      cond (has_ended c.answer.end) c
      (record { page = pages c.page one; answer = with_write c.answer (answers c.page one) })

  -- after the first n datas: 'it stops before the first data for which the page is spent', and 'leaves the earlier writes done and their
  -- cost summed'
  unfoldable pub course_after : (datas : ℕ → List ℕ) (before : List ℕ) → ℕ → Course
  course_after datas before zero = record { page = before; answer = none_written }
  course_after datas before (suc n) = after_one (course_after datas before n) (datas n)

-- a refusal changes nothing
abbrev pub unless_refused : Option Refusal → Course → List ℕ → Course
unless_refused none c before = c
unless_refused (some r) c before = record { page = before; answer = refused_list r }

-- a list of jobs in order, one bit a cell
abbrev pub job_course : (ℕ → Bool) → Generators → List ℕ → (L S count : ℕ) (before content : List ℕ) → Course
job_course marks G W L S count before content =
    course_after (λ page one. job_answer none (one_bit_job marks G W L S page one))
    (λ page one. job_page none (one_bit_job marks G W L S page one) start_of) (data_of L S content) before count

-- a list with these three weights, and a map or none
module _ (map : Option (List ℕ)) (W : List ℕ) (code L S : ℕ) where
  -- the course of its first n datas, by single writes whose raises start where `start` says
  abbrev pub list_course : (before content : List ℕ) (start : ℕ → ℕ) → ℕ → Course
  list_course before content start n =
      course_after (answer_with map W code L S) (λ page one. page_with map W code L S page one start) (data_of L S content) before n

-- of so many datas
module _ (map : Option (List ℕ)) (W : List ℕ) (code L S count : ℕ) (before content : List ℕ) where
  -- the ground on which it is refused
  abbrev pub ground_of : Option Refusal
  ground_of = list_ground (some count) (map_size map) W code L S (length before) (length content)

  -- THE LIST: the page after it and its answer
  unfoldable pub list_with : (start : ℕ → ℕ) → Course
  list_with start = unless_refused ground_of (list_course map W code L S before content start count) before

  -- its answer
  abbrev pub list_answer : ListAnswer
  list_answer = (list_with start_of).answer

  -- the page after it
  abbrev pub list_page : List ℕ
  list_page = (list_with start_of).page

-- a list costs at most this: no write lowers a cell, so that each of the page's 16·L·S cells climbs each of its three steps once at most
abbrev pub list_most : ℕ → ℕ → List ℕ → ℕ
list_most L S W = 16 * L * S * (weight_of W 0 + weight_of W 1 + weight_of W 2)

-- so a list of the largest page costs at most this: each of 65,536 cells climbs three steps once, at 255 each
abbrev pub largest_list_cost : ℕ
largest_list_cost = 50135040

-- how large the fields of an answer are
pub record ListBounds (a : ListAnswer) : Type 0 where
  pub written_most : a.written ≤ 64
  pub cost_most : a.cost ≤ largest_list_cost
  pub strip_most : list_strip a < 64

-- THE FIRST n DATAS WRITTEN, for so much together: each keeps the promise of a single write that is done, on the page that the one before
-- it left
pub data InTurn (start : ℕ → ℕ) (map : Option (List ℕ)) (W : List ℕ) (code L S : ℕ) (before content : List ℕ)
    : (n cost : ℕ) (page : List ℕ) → Type 0 where
  none_yet : InTurn start map W code L S before content 0 0 before
  one_more : {n cost c : ℕ} {page after : List ℕ} → InTurn start map W code L S before content n cost page
      → WroteBy start map W code L S page (data_of L S content n) after (A.Done c)
      → InTurn start map W code L S before content (suc n) (cost + c) after

-- WHAT A LIST PROMISES. Done: every data is written. Spent: those before data number n are, and for that one the page is spent. Refused: by
-- the first ground of the list, and nothing is changed; a call without a ground is not refused.
pub data ListPromised (start : ℕ → ℕ) (g : Option Refusal) (map : Option (List ℕ)) (W : List ℕ) (code L S count : ℕ)
    (before content after : List ℕ) : ListAnswer → Type 0 where
  all_written : {cost : ℕ} → g ≡ none → InTurn start map W code L S before content count cost after
      → ListPromised start g map W code L S count before content after (record { written = count; cost = cost; end = E.Done })
  stopped_at : {n cost k : ℕ} → g ≡ none → n < count → InTurn start map W code L S before content n cost after
      → WroteBy start map W code L S after (data_of L S content n) after (A.Spent k)
      → ListPromised start g map W code L S count before content after (record { written = n; cost = cost; end = E.Spent k })
  not_begun : {r : Refusal} → g ≡ some r → after ≡ before
      → ListPromised start g map W code L S count before content after (refused_list r)

-- of a call of this release
abbrev pub WroteList : (map : Option (List ℕ)) (W : List ℕ) (code L S count : ℕ) (before content after : List ℕ) → ListAnswer → Type 0
WroteList map W code L S count before content after r =
    ListPromised start_of (ground_of map W code L S count before content) map W code L S count before content after r
