-- The invariant: the first j bits kept have been added up.
use mathlib.Core.Path.{◌≡◌}
use Rattle.cells.specs.Places.{from_bits}
use Rattle.cells.specs.Marks.{kept_bit}
use Rattle.page_erasing.proofs.kept_byte.Given as goal

abbrev pub invariant-loop-j : goal.invariant-loop-j
invariant-loop-j l = l.out ≡ from_bits l.j (kept_bit l.byte l.marked l.third)
