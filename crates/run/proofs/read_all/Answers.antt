-- Buffers before the first byte are in order.
use Rattle.script.proofs.Steps.{blank-ready}
use Rattle.run.proofs.read_all.Goals as goal

pub loop-init : goal.loop-init
loop-init c =
    let r = c.begin-run.ensures.number_value in
    blank-ready c.begin-run.result _ _ _ c.requires r.0 r.1
