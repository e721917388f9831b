-- The loop's invariant: the bytes before byte k are added up, each at its place.
use mathlib.Core.Path.{◌≡◌}
use Prim.Native.Nat.{◌+◌, ◌*◌}
use lib.ListN.{get_or}
use Rattle.rows.specs.Rows.{packed_of}
use Rattle.rows.proofs.bits_of.Given as goal

abbrev pub invariant-loop-k : goal.invariant-loop-k
invariant-loop-k l = l.bits ≡ packed_of 8 (λ k. get_or l.strip (6 * l.q + k) 0) l.k
