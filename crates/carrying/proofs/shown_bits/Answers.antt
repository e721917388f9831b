-- `shown_bits` meets its contract by the law of a block so made, since its constants are those words. Its raises are 48 bits, so seven
-- times them fit a number of 64.
use native.Mathlib.Omega.{arith}
use Rattle.rows.specs.Rows.{packed_of}
use Rattle.carrying.proofs.Shown.{raises-less, shown-cells}
use Rattle.carrying.proofs.shown_bits.Goals as goal

pub overflow_mul-first : goal.overflow_mul-first
unfolding packed_of
overflow_mul-first c = record { fits = omega (arith, raises-less c.args.bits c.args.wanted c.requires.1) }

pub returns : goal.returns
unfolding packed_of
returns c =
    shown-cells c.args.q c.args.bits c.args.wanted c.requires.1 c.onward-second.ensures c.onward-third.ensures
