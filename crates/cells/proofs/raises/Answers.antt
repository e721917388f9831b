use mathlib.Core.Path.{refl}
use native.Mathlib.Omega.{arith}
use native.Mathlib.Numerals.{add-one}
use Rattle.cells.specs.Places.{sum_of}
use Rattle.cells.specs.Levels.{raises_of}
use Rattle.cells.proofs.Levels.{raises_of-more}
use Rattle.cells.proofs.raises.Goals as goal

pub loop-c-init : goal.loop-c-init
unfolding raises_of sum_of
loop-c-init c = (refl, omega arith)

pub loop-c-preserved : goal.loop-c-preserved
loop-c-preserved c =
    rw (add-one c.loop-c.c, raises_of-more c.loop-c.c c.args.bytes.now) (omega (arith, c.level.ensures.0), omega arith)
