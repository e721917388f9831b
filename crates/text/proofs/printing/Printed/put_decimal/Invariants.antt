-- The invariant: the number is written once what is left of it is, in front of the digits so far.
use mathlib.Core.Path.{◌≡◌}
use Prim.Native.Nat.{suc, ◌+◌, ◌≤◌}
use lib.ListN.{length}
use Rattle.text.specs.Text.{onto, decimal}
use Rattle.text.proofs.printing.Printed.put_decimal.Given as goal

abbrev pub invariant-loop-n : goal.invariant-loop-n
invariant-loop-n l = record {
  room : length l.self + length (decimal l.n) ≤ length l.initial.self + 20;
  written : onto (suc l.number) l.number l.initial.self ≡ onto (suc l.n) l.n l.self;
}

abbrev pub decreases-loop-n : goal.decreases-loop-n
decreases-loop-n l = l.n
