-- The invariant: before block q the numbers tell what the states cost from there on (BlocksDecoded).
use Rattle.cells.specs.Marks.{marks_in}
use Rattle.codes.specs.Codes.{generators_of}
use Rattle.trellis.proofs.Ways.{BlocksDecoded}
use Rattle.trellis.proofs.backward.price_strip.Given as goal

abbrev pub invariant-loop-q : goal.invariant-loop-q
invariant-loop-q l =
    BlocksDecoded (generators_of l.code) l.rows l.strip (marks_in l.map) l.data l.q l.labels l.costs
