-- The code, then the limits: the grounds in the same order.
use mathlib.Core.Path.{sym, ◌∙◌}
use Rattle.refusals.specs.Refusals.{sizes_ground, code_ground}
use Rattle.refusals.proofs.judge_sizes.Goals as goal

pub returns-then-not-is_code : goal.returns-then-not-is_code
unfolding sizes_ground code_ground
returns-then-not-is_code c = simp (sym c.is_code.ensures ∙ c.if-not-is_code.true)

pub returns : goal.returns
unfolding sizes_ground code_ground
returns c = simp (sym c.is_code.ensures ∙ c.if-not-is_code.false) c.judge_limits.ensures
