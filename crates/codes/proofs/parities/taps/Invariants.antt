-- The invariant: the sum is the number of the first i digits.
use mathlib.Core.Path.{◌≡◌}
use Rattle.cells.specs.Places.{from_bits}
use Rattle.codes.specs.Generators.{digit}
use Rattle.codes.proofs.parities.taps.Given as goal

abbrev pub invariant-loop-i : goal.invariant-loop-i
invariant-loop-i l = l.sum ≡ from_bits l.i (digit l.memory l.generator)
