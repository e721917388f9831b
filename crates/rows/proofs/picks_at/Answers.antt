use mathlib.Core.Path.{refl}
use native.Mathlib.Omega.{arith}
use Rattle.rows.specs.Rows.{stage_row, bits_at, marks_at, packed_of}
use Rattle.rows.proofs.Digits.{packed_more, more-fits}
use Rattle.rows.proofs.Quotes.{row-added, row-less}
use Rattle.rows.proofs.picks_at.Goals as goal

pub loop-i-init : goal.loop-i-init
unfolding packed_of
loop-i-init c = refl

pub loop-i-preserved : goal.loop-i-preserved
loop-i-preserved c =
    let b = bits_at c.args.strip.now c.args.q in
    let m = marks_at c.args.map.now c.args.q in
    rw (row-added b m c.args.labels c.block_kinds-kinds.result c.loop-i.i c.block_kinds-kinds.ensures c.loop-i-test.true)
    (packed_more 8 (stage_row b m c.args.labels) (row-less b m c.args.labels) c.loop-i.i c.loop-i.picks (omega arith) c.loop-i.invariant)

pub overflow_add-picks-in-loop-i : goal.overflow_add-picks-in-loop-i
overflow_add-picks-in-loop-i c =
    let b = bits_at c.args.strip.now c.args.q in
    let m = marks_at c.args.map.now c.args.q in
    let e = row-added b m c.args.labels c.block_kinds-kinds.result c.loop-i.i c.block_kinds-kinds.ensures c.loop-i-test.true in
    record {
      fits = rw e (more-fits 8 (stage_row b m c.args.labels) (row-less b m c.args.labels) c.loop-i.i c.loop-i.picks (omega arith) c.loop-i.invariant);
    }
