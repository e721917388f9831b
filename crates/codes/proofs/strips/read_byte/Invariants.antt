-- The invariant: the windows hold the cell bits before stage 8·q + i, and the byte so far is the number of the data bits of i stages.
use mathlib.Core.Path.{◌≡◌}
use Prim.Native.Nat.{◌+◌, ◌*◌}
use Rattle.cells.specs.Places.{from_bits}
use Rattle.cells.specs.Levels.{level}
use Rattle.codes.specs.Taps.{window_of, first_bit, second_bit, tapped_bit}
use Rattle.codes.proofs.strips.read_byte.Given as goal

abbrev pub invariant-loop-i : goal.invariant-loop-i
invariant-loop-i l =
    (l.a ≡ window_of 7 (first_bit (level l.strip)) (8 * l.q + l.i))
    × (l.b ≡ window_of 7 (second_bit (level l.strip)) (8 * l.q + l.i))
    × (l.byte ≡ from_bits l.i (λ k. tapped_bit l.g1 l.g2 (level l.strip) (8 * l.q + k)))
