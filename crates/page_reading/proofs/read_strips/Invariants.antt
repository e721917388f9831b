-- The invariant: each of the first k parts of the buffer is what its strip reads as.
use mathlib.Core.Path.{◌≡◌}
use Prim.Native.Nat.{ℕ, ◌<◌}
use Rattle.codes.specs.Codes.{generators_of}
use Rattle.codes.specs.Reading.{read_strip}
use Rattle.codes.specs.Layouts.{one_bit}
use Rattle.demand.specs.Jobs.{part}
use Rattle.page_parts.specs.Shape.{strip_part}
use Rattle.page_reading.proofs.read_strips.Given as goal

abbrev pub invariant-loop-k : goal.invariant-loop-k
invariant-loop-k l =
    (j : ℕ) → j < l.k → part l.bytes j l.data ≡ read_strip one_bit (generators_of l.code) l.bytes (strip_part l.bytes j l.page)
