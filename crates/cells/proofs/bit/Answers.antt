-- The bit is read off the byte that `byte` gives.
use Rattle.cells.specs.Bytes.{bit_of}
use Rattle.cells.proofs.bit.Goals as goal

pub returns : goal.returns
unfolding bit_of
returns c = rw c.byte-x.ensures.0
