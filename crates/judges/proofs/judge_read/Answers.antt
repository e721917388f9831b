-- L and S are within their limits, as the sizes have no ground.
use mathlib.Core.Path.{sym, ◌∙◌}
use Rattle.refusals.proofs.Refusals.{done_none, sizes-limits}
use Rattle.judges.proofs.judge_read.Goals as goal

pub judge_lengths-requires : goal.judge_lengths-requires
judge_lengths-requires c =
    sizes-limits c.args.code c.args.bytes c.args.strips (done_none _ (sym c.judge_sizes.ensures ∙ c.in_ok-judge_sizes.was))
