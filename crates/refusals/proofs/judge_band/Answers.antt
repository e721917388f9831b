-- The test is that of the ground.
use native.Mathlib.Omega.{arith}
use borrow.Author.Tests.{le-leb, lt-leb}
use Rattle.refusals.specs.Refusals.{band_ground}
use Rattle.refusals.proofs.judge_band.Goals as goal

pub returns-then-band-gt8 : goal.returns-then-band-gt8
unfolding band_ground
returns-then-band-gt8 c = rw (lt-leb c.args.band 8 (omega (arith, c.if-band-gt8.true)))

pub returns : goal.returns
unfolding band_ground
returns c = rw (le-leb c.args.band 8 (omega (arith, c.if-band-gt8.false)))
