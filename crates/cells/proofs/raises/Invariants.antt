-- The loop's invariant: the sum is that of the levels of the cells passed, at most 3 for each.
use mathlib.Core.Path.{◌≡◌}
use Prim.Native.Nat.{◌≤◌, ◌*◌}
use Rattle.cells.specs.Levels.{raises_of}
use Rattle.cells.proofs.raises.Given as goal

abbrev pub invariant-loop-c : goal.invariant-loop-c
invariant-loop-c l = (l.sum ≡ raises_of l.c l.bytes) × (l.sum ≤ 3 * l.c)
