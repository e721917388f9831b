-- The tests of the cost decide, and where it is the same that of the rank.
use borrow.Author.Tests.{lt-ltb, le-ltb, eq-eqb, ne_eqb}
use Rattle.demand.specs.Offers.{outdoes}
use Rattle.page_choosing.proofs.is_better.Goals as goal

pub returns-then-cost-taken_cost : goal.returns-then-cost-taken_cost
unfolding outdoes
returns-then-cost-taken_cost c = rw (lt-ltb _ _ c.if-cost-taken_cost.true)

pub returns-then-cost-taken_cost-2 : goal.returns-then-cost-taken_cost-2
unfolding outdoes
returns-then-cost-taken_cost-2 c =
    rw (le-ltb c.args.cost c.args.taken_cost c.if-cost-taken_cost.false, eq-eqb c.args.cost c.args.taken_cost c.if-cost-taken_cost-2.true)

pub returns-else-cost-taken_cost-2 : goal.returns-else-cost-taken_cost-2
unfolding outdoes
returns-else-cost-taken_cost-2 c =
    rw (le-ltb c.args.cost c.args.taken_cost c.if-cost-taken_cost.false, ne_eqb c.args.cost c.args.taken_cost c.if-cost-taken_cost-2.false)
