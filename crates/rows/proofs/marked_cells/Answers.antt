use mathlib.Core.Path.{refl}
use native.Mathlib.Omega.{arith}
use Rattle.rows.specs.Rows.{mark_in, packed_of}
use Rattle.rows.proofs.Digits.{packed_more, more-fits}
use Rattle.rows.proofs.Words.{mark-less}
use Rattle.rows.proofs.marked_cells.Goals as goal

pub loop-c-init : goal.loop-c-init
unfolding packed_of
loop-c-init c = refl

pub loop-c-preserved : goal.loop-c-preserved
loop-c-preserved c =
    packed_more 3 (mark_in c.args.marks) (mark-less c.args.marks) c.loop-c.c c.loop-c.out (omega arith) c.loop-c.invariant

pub overflow_add-out : goal.overflow_add-out
overflow_add-out c = record { fits = more-fits 3 (mark_in c.args.marks) (mark-less c.args.marks) c.loop-c.c c.loop-c.out (omega arith) c.loop-c.invariant }
