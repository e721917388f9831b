use mathlib.Core.Path.{refl}
use native.Mathlib.Omega.{arith}
use Rattle.rows.specs.Rows.{packed_of}
use Rattle.rows.proofs.Digits.{packed_more, more-fits}
use Rattle.carrying.proofs.Shown.{pair_small}
use Rattle.carrying.proofs.wanted_bits.Goals as goal

pub loop-i-init : goal.loop-i-init
unfolding packed_of
loop-i-init c = refl

pub loop-i-preserved : goal.loop-i-preserved
loop-i-preserved c = packed_more 6 _ (pair_small c.args.first c.args.second) c.loop-i.i c.loop-i.out (omega arith) c.loop-i.invariant

pub overflow_add-out : goal.overflow_add-out
overflow_add-out c = record { fits = more-fits 6 _ (pair_small c.args.first c.args.second) c.loop-i.i c.loop-i.out (omega arith) c.loop-i.invariant }
