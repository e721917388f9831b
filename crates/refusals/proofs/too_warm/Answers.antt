-- The test is that of the number that the bits stand for.
use mir.Syntax.{w16}
use mir.ValLaws.{to_z-of_z}
use Rattle.refusals.specs.Refusals.{too_warm}
use Rattle.refusals.proofs.too_warm.Goals as goal

pub returns : goal.returns
unfolding too_warm
returns c = rw (to_z-of_z w16 c.args.tenths c.ranges.tenths)
