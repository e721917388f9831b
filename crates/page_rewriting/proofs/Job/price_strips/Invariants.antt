-- The invariant: with the outcomes of the strips from k on, the total comes to the page's answer. A total that is spent stays, so it may
-- answer at once.
use mathlib.Core.List.{List}
use Prim.Native.Nat.{ℕ}
use Rattle.prices.specs.Prices.{Priced}
use Rattle.page_rewriting.specs.Jobs.{job_on}
use Rattle.page_rewriting.proofs.Loops.{Reached}
use Rattle.page_rewriting.proofs.Job.price_strips.Given as goal

abbrev pub invariant-loop-k : goal.invariant-loop-k
invariant-loop-k l = (W : List ℕ) → Priced W l.rows → Reached (record (job_on l.self l.page) { weights = W }) l.total l.k
