-- L and S are within their limits, as the shape has no ground.
use mathlib.Core.Path.{sym, ◌∙◌}
use Rattle.refusals.proofs.Refusals.{done_none, shape-limits}
use Rattle.judges.proofs.judge_erase.Goals as goal

pub judge_map-requires : goal.judge_map-requires
judge_map-requires c =
    shape-limits c.args.bytes c.args.strips c.args.page (done_none _ (sym c.judge_shape.ensures ∙ c.in_ok-judge_shape.was))
