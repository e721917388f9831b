use mathlib.Core.Path.{ap, ◌∙◌}
use Prim.Native.Nat.{ℕ, ◌*◌, ◌/◌, min}
use native.Mathlib.Omega.{arith}
use lib.Seq.{get_or-set_other}
use Rattle.cells.proofs.Places.{store-more}
use Rattle.stages.specs.Stage.{ceiling}
use Rattle.stage_blocks.specs.Blocks.{settled_of}
use Rattle.stage_blocks.proofs.settle.Goals as goal

pub loop-cost-preserved : goal.loop-cost-preserved
unfolding settled_of
loop-cost-preserved c =
    let s = c.loop-cost.cost-index in
    let e = c.loop-cost.invariant.1 s (omega arith) in (
      store-more c.loop-cost.cost-items s c.least.result _ (omega arith) (c.least.ensures ∙ ap (λ (x : ℕ). min (x / 256 * 256) ceiling) e) c.loop-cost.invariant.0,
      λ k h. get_or-set_other c.loop-cost.cost-items s k c.least.result 0 (λ z. omega arith) ∙ c.loop-cost.invariant.1 k (omega arith),
    )
