-- The invariant: the labels are the eight before block q.
use mathlib.Core.Path.{◌≡◌}
use Prim.Native.Nat.{◌<◌, ◌*◌}
use Rattle.codes.specs.Codes.{generators_of}
use Rattle.codes.specs.Taps.{window_of}
use Rattle.codes.specs.Blocks.{label_at}
use Rattle.trellis.proofs.backward.last_labels.Given as goal

abbrev pub invariant-loop-q : goal.invariant-loop-q
invariant-loop-q l = (l.labels < 256) × (l.labels ≡ window_of 8 (label_at (generators_of l.code) l.data) (8 * l.q))
