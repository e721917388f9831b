-- The invariant: the sum is that of the first i taps.
use mathlib.Core.Path.{◌≡◌}
use Rattle.codes.specs.Blocks.{lifted_of}
use Rattle.codes.proofs.blocks.lifted.Given as goal

abbrev pub invariant-loop-i : goal.invariant-loop-i
invariant-loop-i l = l.sum ≡ lifted_of l.taps l.memory l.step l.w l.i
