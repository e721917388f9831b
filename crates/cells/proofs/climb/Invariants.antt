-- The loop's invariant: the sum is the cost of the climb to the level reached, which is not past the last, and at most 255 for each level.
use mathlib.Core.Path.{◌≡◌}
use Prim.Native.Nat.{◌≤◌, ◌*◌, ◌-◌}
use Rattle.cells.specs.Climbs.{weight_of}
use Rattle.cells.specs.Climbs as specs
use Rattle.cells.proofs.climb.Given as goal

abbrev pub invariant-loop-l : goal.invariant-loop-l
invariant-loop-l l = (l.sum ≡ specs.climb (weight_of l.weights) l.from l.l) × (l.l - l.from ≤ l.to - l.from) × (l.sum ≤ 255 * l.l)
