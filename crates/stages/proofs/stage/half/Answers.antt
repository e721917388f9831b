use mathlib.Core.Path.{◌∙◌, ap}
use Prim.Native.Nat.{ℕ, ◌+◌, ◌*◌, ◌<◌}
use native.Mathlib.Omega.{arith}
use lib.ListN.{get_or, length-set}
use lib.Seq.{get_or-set_other}
use Rattle.cells.proofs.Places.{store-more}
use Rattle.stages.proofs.Stages.{half-after, staged-is}
use Rattle.stages.proofs.stage.half.Goals as goal

pub loop-i-preserved : goal.loop-i-preserved
loop-i-preserved c =
    let t : c.loop-i.i < 32 = c.loop-i-test.true in
    let e = half-after c.args.at c.loop-i.i c.requires.whole c.requires.place t in
    let x = ap (λ (p : ℕ). get_or c.args.after.now (2 * c.loop-i.i) 0 + p) c.price_of.ensures in
    let y = ap (λ (p : ℕ). get_or c.args.after.now (2 * c.loop-i.i + 1) 0 + p)
    (c.price_of-in-loop-i.ensures ∙ c.requires.turned (get_or c.args.words.now (c.args.at + c.loop-i.i) 0) (c.requires.words_le _)) in
    let number = c.least.ensures ∙ staged-is c.args.after.now c.args.words.now c.args.prices (c.args.at + c.loop-i.i) (2 * c.loop-i.i) e x y in (
      simp length-set (omega arith),
      λ k h. store-more c.loop-i.costs (c.args.at + c.loop-i.i) c.least.result _ (omega arith) number c.loop-i.invariant.1 k (omega arith),
      λ k h. get_or-set_other c.loop-i.costs (c.args.at + c.loop-i.i) k c.least.result 0 (λ z. omega arith) ∙ c.loop-i.invariant.2 k (omega arith),
    )
