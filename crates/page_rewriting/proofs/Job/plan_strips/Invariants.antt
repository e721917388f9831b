-- The invariant: with the outcomes of the strips from k on, the total comes to the page's answer, and the parts of the digits before k are
-- the strips' plans.
use mathlib.Core.List.{List}
use Prim.Native.Nat.{ℕ}
use Rattle.codes.specs.Codes.{generators_of}
use Rattle.prices.specs.Prices.{Priced}
use Rattle.page_rewriting.specs.Jobs.{job_on}
use Rattle.page_rewriting.proofs.Loops.{PlannedTo, Reached}
use Rattle.page_rewriting.proofs.Job.plan_strips.Given as goal

abbrev pub invariant-loop-k : goal.invariant-loop-k
invariant-loop-k l =
    let J = l.self in
    ((W : List ℕ) → Priced W l.rows → Reached (record (job_on J l.page) { weights = W }) l.total l.k)
    × ((W : List ℕ) → Priced W l.rows → PlannedTo (generators_of J.code) W J.bytes J.strips l.page J.map.now J.«data».now l.digits l.k)
