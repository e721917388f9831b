-- The line of values, the last one first, and the names in front of it.
use Rattle.text.specs.Text.{fault_head, fault_text}
use Rattle.text.proofs.printing.Printed.fault.Goals as goal

pub returns-clause-text_is : goal.returns-clause-text_is
unfolding fault_text fault_head
returns-clause-text_is c = rw (c.put_text.ensures, c.put_field-2.ensures.text_is, c.put_field.ensures.text_is, c.nothing-printed.ensures.text_is)
