-- The four fields, the last one first.
use Rattle.text.specs.Text.{row_text}
use Rattle.text.proofs.printing.Printed.row.Goals as goal

pub returns-clause-text_is : goal.returns-clause-text_is
unfolding row_text
returns-clause-text_is c =
    rw (c.put_field-4.ensures.text_is, c.put_field-3.ensures.text_is, c.put_field-2.ensures.text_is, c.put_field.ensures.text_is, c.nothing-printed.ensures.text_is)
