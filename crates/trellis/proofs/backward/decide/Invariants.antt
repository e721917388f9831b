-- The invariant: before block q the numbers tell what the states cost from there on (BlocksDecoded), and the blocks from q on are kept.
use mathlib.Core.Path.{◌≡◌}
use Prim.Native.Nat.{ℕ, ◌<◌, ◌≤◌, ◌+◌, ◌*◌}
use lib.ListN.{length, get_or}
use Rattle.cells.specs.Places.{Untouched}
use Rattle.cells.specs.Levels.{level}
use Rattle.cells.specs.Marks.{marks_in}
use Rattle.codes.specs.Codes.{generators_of}
use Rattle.codes.specs.Taps.{window_of, first_bit}
use Rattle.trellis.proofs.Ways.{BlocksDecoded}
use Rattle.trellis.proofs.Ways.{TracedFrom}
use Rattle.trellis.proofs.backward.decide.Given as goal

abbrev pub invariant-loop-q : goal.invariant-loop-q
invariant-loop-q l =
    (BlocksDecoded (generators_of l.code) l.rows l.strip (marks_in l.map) l.data l.q l.labels l.costs)
    × (TracedFrom (generators_of l.code) l.rows l.strip (marks_in l.map) l.data l.history l.q)
    × (length l.lows ≡ 64)
    × ((k : ℕ) → l.q ≤ k → k < length l.data → get_or l.lows k 0 ≡ window_of 8 (first_bit (level l.strip)) (8 * (k + 1)))
    × Untouched (64 * length l.data) l.initial.history l.history
    × Untouched (length l.data) l.initial.lows l.lows
