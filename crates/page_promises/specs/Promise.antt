-- WHAT A WRITE PROMISES, on every input: for each case of its answer, what holds of the page before and after.
--   Promised start g J after r                        of a job, by the ground of a refusal; `start` says where the raises of a cell start
--   WroteBy start map W .. after r                    of a write with a map, or without one
--   WroteWith map W code L S before content after r   of such a write of this release
--   Wrote W code L S before content after r           of a write without
use Rattle.std.specs.Prelude.{◌≡◌, List, ℕ}
use Rattle.std.proofs.Math.Option.{Option, none, some}
use Rattle.cells.specs.Raising.{start_of}
use Rattle.demand.specs.Jobs.{Job}
use Rattle.demand.specs.Demand.{Cheapest, SpentAt}
use Rattle.page_promises.specs.Writes.{ground_with, job_with}
use Rattle.refusals.specs.declared.Refusal.{Refusal}
use Rattle.page_answers.specs.declared.Answer.{Answer}
use Rattle.page_answers.specs.declared.Answer.TheVariants as A

-- 'The answer of a write is done with its cost, spent with the lowest number of a strip .., or refused with the refusal inside it.' Done:
-- the page is the cheapest of all that could be. Spent: no page could be, and nothing is changed. Refused: by the first ground of the list,
-- and nothing is changed; a call without a ground is not refused.
pub data Promised (start : ℕ → ℕ) (g : Option Refusal) (J : Job) (after : List ℕ) : Answer → Type 0 where
  done : {cost : ℕ} → g ≡ none → Cheapest start J after cost → Promised start g J after (A.Done cost)
  spent : {k : ℕ} → g ≡ none → SpentAt J k → after ≡ J.page → Promised start g J after (A.Spent k)
  refused : {r : Refusal} → g ≡ some r → after ≡ J.page → Promised start g J after (A.Refused r)

-- of a write with the weights W, and perhaps a map
abbrev pub WroteBy : (start : ℕ → ℕ) (map : Option (List ℕ)) (W : List ℕ) (code L S : ℕ) (before content after : List ℕ) → Answer
    → Type 0
WroteBy start map W code L S before content after r =
    Promised start (ground_with map W code L S before content) (job_with map W code L S before content) after r

-- whose raises start where those of this release do
abbrev pub WroteWith : (map : Option (List ℕ)) (W : List ℕ) (code L S : ℕ) (before content after : List ℕ) → Answer → Type 0
WroteWith map W code L S before content after r = WroteBy start_of map W code L S before content after r

-- without a map
abbrev pub Wrote : (W : List ℕ) (code L S : ℕ) (before content after : List ℕ) → Answer → Type 0
Wrote W code L S before content after r = WroteWith none W code L S before content after r
