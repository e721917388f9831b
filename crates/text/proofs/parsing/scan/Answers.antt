use mathlib.Core.Path.{sym, ◌∙◌, ap}
use Prim.Native.Nat.{◌+◌}
use native.Mathlib.Omega.{arith}
use lib.ListN.{drop, drop_of_length-le}
use Rattle.text.specs.declared.Values.{Values}
use Rattle.text.specs.Lines.{scan_of}
use Rattle.text.proofs.Lines.{scan-next, values-none}
use Rattle.text.proofs.parsing.scan.Goals as goal

pub loop-c-init : goal.loop-c-init
loop-c-init c =
    let d = c.default-v.ensures in
    ap (λ (v : Values). scan_of v c.args.line.now) (sym (values-none d.0 d.1.0 d.1.1))

pub loop-c-preserved : goal.loop-c-preserved
loop-c-preserved c =
    c.loop-c.invariant ∙ scan-next c.loop-c.v c.args.line.now c.loop-c.c-index (omega arith)
    ∙ ap (λ (v : Values). scan_of v (drop (c.loop-c.c-index + 1) c.args.line.now)) (sym c.step-v.ensures)

pub returns : goal.returns
unfolding scan_of
returns c = sym (c.loop-c.invariant ∙ ap (scan_of c.loop-c.v) (drop_of_length-le c.args.line.now c.loop-c-test.false))
