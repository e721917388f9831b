-- The judge's answer is the ground's: with none, the sizes are those that the strips ask.
use mathlib.Core.Path.{sym, ◌∙◌}
use Rattle.refusals.proofs.Refusals.{done_none, in_order}
use Rattle.page_parts.proofs.Strips.{sized-by}
use Rattle.page_reading.proofs.read.Goals as goal

pub read_strips-requires : goal.read_strips-requires
read_strips-requires c =
    sized-by _ _ _ _ (in_order _ _ _ _ _ (done_none _ (sym c.judge_read.ensures ∙ c.in_ok-judge_read.was)))
