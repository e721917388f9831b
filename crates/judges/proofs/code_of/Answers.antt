-- The test is that of the number's generators.
use borrow.Author.Tests.{eq-eqb, ne_eqb}
use Rattle.refusals.specs.Refusals.{numbered}
use Rattle.judges.proofs.code_of.Goals as goal

pub returns-then-code-eq3 : goal.returns-then-code-eq3
unfolding numbered
returns-then-code-eq3 c = simp (eq-eqb _ _ c.if-code-eq3.true) c.short.ensures

pub returns-else-code-eq3 : goal.returns-else-code-eq3
unfolding numbered
returns-else-code-eq3 c = simp (ne_eqb _ _ c.if-code-eq3.false) c.long.ensures
