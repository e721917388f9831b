use mathlib.Core.Path.{refl}
use Prim.Native.Nat.{◌-◌, ◌<◌}
use native.Mathlib.Omega.{arith}
use lib.ListN.{get_or}
use Rattle.stage_blocks.specs.Blocks.{pick_at, block_of}
use Rattle.stage_blocks.proofs.Runs.{four-more}
use Rattle.stage_blocks.proofs.run_short.Goals as goal

pub loop-i-init : goal.loop-i-init
unfolding block_of
loop-i-init c =
    record {
      a-is = refl;
      b-is = refl;
      c-is = refl;
      d-is = refl;
      a-le = omega (arith, c.requires.costs_le 0);
      b-le = omega (arith, c.requires.costs_le 1);
      c-le = omega (arith, c.requires.costs_le 2);
      d-le = omega (arith, c.requires.costs_le 3);
    }

pub loop-i-preserved : goal.loop-i-preserved
unfolding pick_at
loop-i-preserved c =
    let t : 0 < c.loop-i.i = c.loop-i-test.true in
    four-more c.args.rows.now c.args.picks (λ k. get_or c.args.costs.now k 0) c.requires.rows_le c.requires.costs_le (8 - c.loop-i.i) (c.loop-i.i - 1)
    c.marked.result (omega arith) c.loop-i.invariant c.marked.ensures.by_index c.least.ensures
    c.least-in-loop-i.ensures c.least-in-loop-i-2.ensures c.least-in-loop-i-3.ensures
