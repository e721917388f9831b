-- The invariant: for digits u that are followed, the bytes before q are their windows, and so is what is carried on.
use mathlib.Core.Path.{◌≡◌}
use Prim.Native.Nat.{ℕ, ◌<◌, ◌+◌, ◌*◌}
use lib.ListN.{length, get_or}
use Rattle.codes.specs.Codes.{generators_of}
use Rattle.codes.specs.Taps.{window_of}
use Rattle.trellis.specs.Ways.{Followed}
use Rattle.trellis.proofs.forward.follow.Given as goal

abbrev pub invariant-loop-q : goal.invariant-loop-q
invariant-loop-q l =
    (l.before < 256)
    × ((u : ℕ → ℕ) → Followed (generators_of l.code) l.lows l.history (length l.initial.digits) u → l.before ≡ window_of 8 u (8 * l.q))
    × ((u : ℕ → ℕ) → Followed (generators_of l.code) l.lows l.history (length l.initial.digits) u
    → (k : ℕ) → k < l.q → get_or l.digits k 0 ≡ window_of 8 u (8 * (k + 1)))
