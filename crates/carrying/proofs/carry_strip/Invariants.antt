-- The invariant: the cells of the first q blocks are carried out and no other, and the labels and the digits are those before block q.
use mathlib.Core.Path.{◌≡◌}
use Prim.Native.Nat.{◌<◌, ◌*◌}
use Rattle.cells.specs.Raising.{start_of, raised_to}
use Rattle.codes.specs.Codes.{generators_of}
use Rattle.codes.specs.Taps.{window_of}
use Rattle.codes.specs.Blocks.{label_at}
use Rattle.carrying.specs.Carrying.{digit_in}
use Rattle.carrying.proofs.Carried.{carried_below}
use Rattle.carrying.proofs.carry_strip.Given as goal

abbrev pub invariant-loop-q : goal.invariant-loop-q
invariant-loop-q l =
    (l.labels < 256)
    × (l.labels ≡ window_of 8 (label_at (generators_of l.code) l.data) (8 * l.q))
    × (l.before < 256)
    × (l.before ≡ window_of 8 (digit_in l.digits) (8 * l.q))
    × (l.strip ≡ raised_to start_of l.initial.strip (carried_below (generators_of l.code) l.initial.strip l.data (digit_in l.digits) (16 * l.q)))
