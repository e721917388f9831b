-- The invariant: the sum is that of the first i taps.
use mathlib.Core.Path.{◌≡◌}
use Rattle.codes.specs.Blocks.{tapped_of}
use Rattle.codes.proofs.blocks.tapped.Given as goal

abbrev pub invariant-loop-i : goal.invariant-loop-i
invariant-loop-i l = l.sum ≡ tapped_of l.taps l.step l.w l.i
