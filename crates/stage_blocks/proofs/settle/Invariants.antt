-- The invariant: the states passed are settled, and the other places are as at entry.
use mathlib.Core.Path.{◌≡◌}
use Prim.Native.Nat.{ℕ, ◌≤◌, ◌<◌}
use lib.ListN.{get_or}
use Rattle.stage_blocks.specs.Blocks.{settled_of}
use Rattle.stage_blocks.proofs.settle.Given as goal

abbrev pub invariant-loop-cost : goal.invariant-loop-cost
invariant-loop-cost l =
    ((k : ℕ) → k < l.cost-index → get_or l.cost-items k 0 ≡ settled_of (get_or l.initial.cost-items k 0))
    × ((k : ℕ) → l.cost-index ≤ k → get_or l.cost-items k 0 ≡ get_or l.initial.cost-items k 0)
