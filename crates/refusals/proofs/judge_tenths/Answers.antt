-- The tests are those of both ends.
use mathlib.Core.Path.{sym, ◌∙◌}
use mir.Syntax.{w16}
use mir.ValLaws.{to_z-of_z}
use Rattle.refusals.specs.Refusals.{erase_ground}
use Rattle.refusals.proofs.judge_tenths.Goals as goal
use Rattle.refusals.proofs.judge_tenths.Goals.{then-too_cold-via-then-too_cold, then-too_cold-via-else-too_cold+then-too_warm}

pub returns-then-too_cold : goal.returns-then-too_cold
unfolding erase_ground
returns-then-too_cold c =
    let cold = rw (to_z-of_z w16 c.args.tenths c.ranges.tenths) at c.too_cold.ensures in
    elim c.then-too_cold.branch [
      | then-too_cold-via-then-too_cold w ↦ simp (sym cold ∙ w.if-too_cold.true)
      | then-too_cold-via-else-too_cold+then-too_warm w ↦
          simp (sym cold ∙ w.if-too_cold.false, sym (rw (to_z-of_z w16 c.args.tenths c.ranges.tenths) at w.too_warm.ensures) ∙ w.if-too_warm.true)
    ]

pub returns : goal.returns
unfolding erase_ground
returns c =
    let cold = rw (to_z-of_z w16 c.args.tenths c.ranges.tenths) at c.too_cold.ensures in
    let warm = rw (to_z-of_z w16 c.args.tenths c.ranges.tenths) at c.too_warm.ensures in
    simp (sym cold ∙ c.if-too_cold.false, sym warm ∙ c.if-too_warm.false)
