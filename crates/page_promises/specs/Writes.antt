-- The answer of a price or a write, and the page after it, on every input.
--   job_answer, job_page    the answer of a job and the page after it, by the ground of a refusal
--   marked_by, map_size     the cells that a call's map marks, and its length
--   ground_with, job_with   the ground on which a call is refused, and its job
--   answer_with             the answer of a write with a map, or without one
--   page_with               the page after it, by any order of the raises
--   answer_of               the answer of a write without a map
--   page_by, page_of        the page after it, by any order of the raises, and by this release's
--   largest_cost            one write costs at most this with the house's weights
--   largest_weighted_cost   and this with any
use Rattle.std.specs.Prelude.{Bool, List, ℕ, length}
use Rattle.std.proofs.Math.Option.{Option, none, some}
use Rattle.cells.specs.Marks.{marks_in}
use Rattle.cells.specs.Raising.{start_of, start_in, raised_to}
use Rattle.codes.specs.Generators.{Generators}
use Rattle.codes.specs.Layouts.{one_bit}
use Rattle.search.specs.Best.{Solution}
use Rattle.search.specs.Levels.{level_at}
use Rattle.refusals.specs.Refusals.{call_ground, numbered}
use Rattle.search.specs.Layouts.{unmarked}
use Rattle.demand.specs.Jobs.{Job, width}
use Rattle.demand.specs.Computed.{page_write, spent_strip}
use Rattle.refusals.specs.declared.Refusal.{Refusal}
use Rattle.page_answers.specs.declared.Answer.{Answer}
use Rattle.page_answers.specs.declared.Answer.TheVariants as A

-- a write's answer, by the ground of a refusal, the computed write and the strip that is spent
abbrev pub call_answer : Option Refusal → Option Solution → ℕ → Answer
call_answer (some r) w k = A.Refused r
call_answer none (some a) k = A.Done a.cost
call_answer none none k = A.Spent k

-- the page after it
abbrev pub call_page : Option Refusal → Option Solution → (Solution → List ℕ) → List ℕ → List ℕ
call_page (some r) w raised before = before
call_page none (some a) raised before = raised a
call_page none none raised before = before

-- the job of a page, one bit a cell
abbrev pub one_bit_job : (ℕ → Bool) → Generators → List ℕ → ℕ → ℕ → List ℕ → List ℕ → Job
one_bit_job marks G W L S page content = record {
  layout = one_bit;
  code = G;
  weights = W;
  marks = marks;
  bytes = L;
  strips = S;
  page = page;
  content = content;
}

-- a job, refused by a ground or carried out
module _ (g : Option Refusal) (J : Job) where
  -- what it answers
  unfoldable pub job_answer : Answer
  job_answer = call_answer g (page_write J) (spent_strip J)

  -- the page after it: its cells are raised to the levels of the computed write; the raises of the cell with the number n in its strip
  -- start at bit start n
  unfoldable pub job_page : (start : ℕ → ℕ) → List ℕ
  job_page start = call_page g (page_write J) (λ a. raised_to (start_in start (width J)) J.page (level_at a.levels)) J.page

-- 'calls without one mean a map with no cell marked'
abbrev pub marked_by : Option (List ℕ) → ℕ → Bool
marked_by none = unmarked
marked_by (some map) = marks_in map

-- the length of a call's map
abbrev pub map_size : Option (List ℕ) → Option ℕ
map_size none = none
map_size (some map) = some (length map)

-- a call of write or price with a map or without one, and these three weights, one bit a cell
module _ (map : Option (List ℕ)) (W : List ℕ) (code L S : ℕ) (before content : List ℕ) where
  -- the ground on which it is refused
  abbrev pub ground_with : Option Refusal
  ground_with = call_ground (map_size map) W code L S (length before) (length content)

  -- its job
  abbrev pub job_with : Job
  job_with = one_bit_job (marked_by map) (numbered code) W L S before content

  -- THE ANSWER of a write, and of a price
  unfoldable pub answer_with : Answer
  answer_with = job_answer ground_with job_with

  -- THE PAGE after a write whose raises start where `start` says
  unfoldable pub page_with : (start : ℕ → ℕ) → List ℕ
  page_with start = job_page ground_with job_with start

-- a call without a map
module _ (W : List ℕ) (code L S : ℕ) (before content : List ℕ) where
  -- its job
  abbrev pub job_of : Job
  job_of = job_with none W code L S before content

  -- its answer
  abbrev pub answer_of : Answer
  answer_of = answer_with none W code L S before content

  -- the page after a write whose raises start where `start` says
  abbrev pub page_by : (start : ℕ → ℕ) → List ℕ
  page_by start = page_with none W code L S before content start

  -- and after a write of this release
  abbrev pub page_of : List ℕ
  page_of = page_by start_of

-- 'One write of the largest page costs at most 1,835,008.'
abbrev pub largest_cost : ℕ
largest_cost = 1835008

-- with weights from the data sheet 'one write of the largest page then costs at most 16,711,680'
abbrev pub largest_weighted_cost : ℕ
largest_weighted_cost = 16711680
