-- A turn does one state. The invariant: the states before at + i have their numbers, and the others are as they were.
use mathlib.Core.Path.{◌≡◌}
use Prim.Native.Nat.{ℕ, ◌+◌, ◌≤◌, ◌<◌}
use lib.ListN.{length, get_or}
use Rattle.stages.specs.Stage.{staged_at}
use Rattle.stages.proofs.stage.half.Given as goal

abbrev pub invariant-loop-i : goal.invariant-loop-i
invariant-loop-i l =
    (length l.costs ≡ 64)
    × ((k : ℕ) → k < l.at + l.i → get_or l.costs k 0 ≡ staged_at l.after l.words l.prices k)
    × ((k : ℕ) → l.at + l.i ≤ k → get_or l.costs k 0 ≡ get_or l.initial.costs k 0)
