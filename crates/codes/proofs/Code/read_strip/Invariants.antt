-- The invariant: q bytes are read, and the windows hold the cell bits before byte q.
use mathlib.Core.Path.{◌≡◌}
use Prim.Native.Nat.{ℕ, ◌<◌, ◌+◌, ◌*◌}
use lib.ListN.{get_or}
use Rattle.cells.specs.Places.{from_bits}
use Rattle.cells.specs.Levels.{level}
use Rattle.codes.specs.Codes.{WindowsBefore}
use Rattle.codes.specs.Taps.{tapped_bit}
use Rattle.codes.proofs.Code.read_strip.Given as goal

abbrev pub invariant-loop-q : goal.invariant-loop-q
invariant-loop-q l =
    WindowsBefore l.strip l.q l.windows
    × ((k : ℕ) → k < l.q → get_or l.data k 0 ≡ from_bits 8 (λ i. tapped_bit l.g1 l.g2 (level l.strip) (8 * k + i)))
