-- A weight is read as a byte of the three.
use Rattle.cells.specs.Climbs.{weight_of}
use Rattle.cells.proofs.weight.Goals as goal

pub returns : goal.returns
unfolding weight_of
returns c = c.byte.ensures
