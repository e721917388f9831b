-- The byte stands in front of the text, and zeros in front of it.
use Prim.Native.Nat.{◌-◌}
use native.Mathlib.Omega.{arith}
use lib.ListN.{set}
use Rattle.std.proofs.lemmas.List.{take-set-le, length-set, length-drop}
use Rattle.text.proofs.Fronts.{zeros-kept}
use Rattle.text.proofs.printing.Printed.put_byte.Goals as goal

pub invariant_of-self : goal.invariant_of-self
invariant_of-self c =
    let at = c.self.inside.at in
    let bytes = c.self.inside.bytes in
    let stored = set bytes (at - 1) c.args.byte in
    let front = c.self.invariant.1 in (
      simp (length-drop, length-set) (omega (arith, c.self.told, c.requires)),
      zeros-kept (at - 1) at bytes stored (omega arith) front (take-set-le (at - 1) bytes (at - 1) c.args.byte (omega arith)),
    )
