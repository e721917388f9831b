-- The limits are kept where the sizes are in order.
use mathlib.Core.Path.{sym, ◌∙◌}
use Rattle.refusals.proofs.Refusals.{done_none, sizes-limits}
use Rattle.block_shape.proofs.judge_put.Goals as goal

pub judge_block-requires : goal.judge_block-requires
judge_block-requires c = sizes-limits _ _ _ (done_none _ (sym c.judge_sizes.ensures ∙ c.in_ok-judge_sizes.was))

pub judge_data-requires : goal.judge_data-requires
judge_data-requires c = sizes-limits _ _ _ (done_none _ (sym c.judge_sizes.ensures ∙ c.in_ok-judge_sizes.was))
