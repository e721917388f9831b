-- `wanted_bits` meets its contract: the loop has added up the bits of the first i stages.
use mathlib.Core.Path.{◌≡◌}
use Rattle.carrying.specs.Carrying.{wanted_bits}
use Rattle.carrying.proofs.wanted_bits.Given as goal

abbrev pub invariant-loop-i : goal.invariant-loop-i
invariant-loop-i l = l.out ≡ wanted_bits l.first l.second l.i
