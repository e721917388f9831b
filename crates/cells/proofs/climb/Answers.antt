use mathlib.Core.Path.{sym}
use native.Mathlib.Omega.{arith}
use native.Mathlib.Numerals.{add-one}
use Rattle.cells.specs.Climbs.{weight_of}
use Rattle.cells.proofs.Climbs.{climb-stay, climb-more, climb-same}
use Rattle.cells.proofs.climb.Goals as goal

pub loop-l-init : goal.loop-l-init
loop-l-init c = (sym (climb-stay (weight_of c.args.weights) c.args.from), omega arith, omega arith)

pub loop-l-preserved : goal.loop-l-preserved
loop-l-preserved c =
    rw (add-one c.loop-l.l, climb-more (weight_of c.args.weights) c.args.from c.loop-l.l c.loop-l.auto.l)
    (omega (arith, c.weight-sum.ensures.0), omega arith, omega arith)

pub returns : goal.returns
returns c =
    omega (arith, climb-same (weight_of c.args.weights) c.args.from c.loop-l.l c.args.to (omega arith))
