-- The invariant: the first i bytes are emptied, and the others as they came.
use mathlib.Core.Path.{◌≡◌}
use Prim.Native.Nat.{ℕ, ◌≤◌, ◌<◌}
use lib.ListN.{get_or}
use Rattle.cells.specs.Marks.{marks_in, emptied}
use Rattle.page_erasing.proofs.empty_unmarked.Given as goal

abbrev pub invariant-loop-i : goal.invariant-loop-i
invariant-loop-i l =
    ((k : ℕ) → k < l.i → get_or l.page k 0 ≡ get_or (emptied (marks_in l.map) l.initial.page) k 0)
    × ((k : ℕ) → l.i ≤ k → get_or l.page k 0 ≡ get_or l.initial.page k 0)
