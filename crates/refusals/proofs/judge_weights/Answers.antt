-- The test is that of the ground.
use mathlib.Core.Path.{sym, ◌∙◌}
use Rattle.refusals.specs.Refusals.{weights_ground}
use Rattle.refusals.proofs.judge_weights.Goals as goal

pub returns-then-free_step : goal.returns-then-free_step
unfolding weights_ground
returns-then-free_step c = simp (sym c.free_step.ensures ∙ c.if-free_step.true)

pub returns : goal.returns
unfolding weights_ground
returns c = simp (sym c.free_step.ensures ∙ c.if-free_step.false)
