-- The invariant: the rows are those of a census of the first k strips.
use mathlib.Core.Path.{◌≡◌}
use Rattle.cells.specs.Places.{list_of}
use Rattle.codes.specs.Layouts.{one_bit}
use Rattle.page_counting.specs.Counting.{row_at}
use Rattle.page_counting.proofs.counting.census.Given as goal

abbrev pub invariant-loop-k : goal.invariant-loop-k
invariant-loop-k l = l.rows ≡ list_of 64 (row_at one_bit l.bytes l.k l.page)
