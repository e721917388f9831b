-- Both bytes are as the map has them, and 0 past its end.
use borrow.Author.Rules.{rules}
use Rattle.rows.specs.Rows.{marks_at}
use Rattle.rows.proofs.marks_of.Goals as goal

pub returns : goal.returns
unfolding marks_at
returns c = search rules
