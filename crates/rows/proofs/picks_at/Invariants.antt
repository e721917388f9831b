-- The loop's invariant: the rows of the stages before i are packed, a byte each.
use mathlib.Core.Path.{◌≡◌}
use Rattle.rows.specs.Rows.{stage_row, bits_at, marks_at, packed_of}
use Rattle.rows.proofs.picks_at.Given as goal

abbrev pub invariant-loop-i : goal.invariant-loop-i
invariant-loop-i l = l.picks ≡ packed_of 8 (stage_row (bits_at l.strip l.q) (marks_at l.map l.q) l.labels) l.i
