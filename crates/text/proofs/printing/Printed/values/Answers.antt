-- The three fields, the last one first.
use mathlib.Core.List.{append-nil}
use Rattle.text.specs.Text.{values_text}
use Rattle.text.proofs.printing.Printed.values.Goals as goal

pub returns-clause-text_is : goal.returns-clause-text_is
unfolding values_text
returns-clause-text_is c =
    rw (c.put_field-2.ensures.text_is, c.put_field.ensures.text_is, c.put_decimal.ensures.text_is, c.nothing-printed.ensures.text_is, append-nil)
    (rw (c.from-3.ensures, c.from-2.ensures, c.from.ensures))
