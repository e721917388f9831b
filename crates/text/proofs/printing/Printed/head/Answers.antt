-- The text is put in front of nothing.
use Rattle.text.specs.Text.{head_text}
use Rattle.text.proofs.printing.Printed.head.Goals as goal

pub returns-clause-text_is : goal.returns-clause-text_is
unfolding head_text
returns-clause-text_is c = rw (c.put_text.ensures, c.nothing-printed.ensures.text_is)
