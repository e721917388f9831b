-- The row is made from the answer and the page after the write.
use mathlib.Core.Path.{◌∙◌}
use Rattle.turn_rows.proofs.Rows.{row_is}
use Rattle.turn_rows.proofs.write_row.Goals as goal

pub returns : goal.returns
returns c =
    let e =
    row_is c.args.v c.args.page.now c.args.data.now _ _ c.write-answer.ensures.value c.write-answer.ensures.page_after c.args.number _ _ _ _
    (c.from.ensures ∙ c.number.ensures) c.answer_cost.ensures c.size-n.ensures.1 c.raises-levels.ensures in
    record {
      row = c.row.ensures.text_is ∙ e;
      near = c.row.ensures.near;
      page_after = c.write-answer.ensures.page_after;
    }
