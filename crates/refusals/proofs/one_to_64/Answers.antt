-- The two tests are those of the limits, in the same order.
use borrow.Author.Tests.{le-leb, lt-leb}
use Rattle.refusals.specs.Refusals.{one_to_64}
use Rattle.refusals.proofs.one_to_64.Goals as goal

pub returns-then-n-ge1 : goal.returns-then-n-ge1
unfolding one_to_64
returns-then-n-ge1 c = simp (le-leb _ _ c.if-n-ge1.true)

pub returns-else-n-ge1 : goal.returns-else-n-ge1
unfolding one_to_64
returns-else-n-ge1 c = simp (lt-leb _ _ c.if-n-ge1.false)
