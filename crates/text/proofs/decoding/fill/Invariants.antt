-- The invariant: the first k bytes are those of the first k pairs.
use mathlib.Core.Path.{◌≡◌}
use mathlib.Core.List.{◌++◌}
use Prim.Native.Nat.{◌*◌}
use lib.ListN.{take, drop}
use Rattle.text.specs.Hex.{pairs}
use Rattle.text.proofs.decoding.fill.Given as goal

abbrev pub invariant-loop-k : goal.invariant-loop-k
invariant-loop-k l = pairs l.line ≡ take l.k l.data ++ pairs (drop (2 * l.k) l.line)
