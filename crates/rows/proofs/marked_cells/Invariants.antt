-- The loop's invariant: the marks of the cells before c are packed, three bits a cell.
use mathlib.Core.Path.{◌≡◌}
use Rattle.rows.specs.Rows.{mark_in, packed_of}
use Rattle.rows.proofs.marked_cells.Given as goal

abbrev pub invariant-loop-c : goal.invariant-loop-c
invariant-loop-c l = l.out ≡ packed_of 3 (mark_in l.marks) l.c
