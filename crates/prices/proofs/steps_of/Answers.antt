-- The three weights are the list's elements, which has three, and closed comes after them.
use Rattle.prices.proofs.Prices.{steps-are}
use Rattle.prices.proofs.steps_of.Goals as goal

pub returns : goal.returns
returns c =
    rw (c.weight-a.ensures.0, c.weight-b.ensures.0, c.weight-c.ensures.0)
    (steps-are c.args.weights c.well_formed.0.1.0.1)
