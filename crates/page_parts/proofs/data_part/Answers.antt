-- The part that is lent is part k.
use Rattle.page_parts.proofs.Strips.{lent}
use Rattle.page_parts.proofs.data_part.Goals as goal

pub returns : goal.returns
returns c = lent _ _ _
