use mathlib.Core.Path.{sym, ◌∙◌}
use native.Mathlib.Omega.{arith}
use Rattle.text.proofs.Hex.{pair-more, pair-all}
use Rattle.text.proofs.decoding.fill.Goals as goal

pub loop-k-preserved : goal.loop-k-preserved
loop-k-preserved c =
    c.loop-k.invariant
    ∙ pair-more c.args.line.now c.loop-k.data c.loop-k.k _ _ (omega arith) (omega arith) c.nibble_of-high.ensures.value c.nibble_of-low.ensures.value

pub returns : goal.returns
returns c = sym (c.loop-k.invariant ∙ pair-all c.args.line.now c.loop-k.data _ (omega arith) (omega arith))
