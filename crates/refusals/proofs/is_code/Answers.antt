-- The two tests are those of the definition.
use borrow.Author.Tests.{ne_eqb}
use Rattle.refusals.specs.Refusals.{is_code}
use Rattle.refusals.proofs.is_code.Goals as goal

pub returns-then-n-eq3 : goal.returns-then-n-eq3
unfolding is_code
returns-then-n-eq3 c = rw c.if-n-eq3.true

pub returns-else-n-eq3 : goal.returns-else-n-eq3
unfolding is_code
returns-else-n-eq3 c = simp (ne_eqb c.args.n 3 c.if-n-eq3.false)
