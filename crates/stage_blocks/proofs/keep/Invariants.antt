-- The invariant: the low bytes of the states passed are kept, and the places before and after them are as at entry.
use mathlib.Core.Path.{◌≡◌}
use Prim.Native.Nat.{ℕ, ◌+◌, ◌*◌, ◌%◌, ◌≤◌, ◌<◌}
use lib.ListN.{length, get_or}
use Rattle.stage_blocks.proofs.keep.Given as goal

abbrev pub invariant-loop-s : goal.invariant-loop-s
invariant-loop-s l =
    (length l.history ≡ 4096)
    × ((k : ℕ) → k < l.s → get_or l.history (64 * l.q + k) 0 ≡ get_or l.costs k 0 % 256)
    × ((k : ℕ) → k < 64 * l.q → get_or l.history k 0 ≡ get_or l.initial.history k 0)
    × ((k : ℕ) → 64 * l.q + l.s ≤ k → get_or l.history k 0 ≡ get_or l.initial.history k 0)
