-- The text stands in front of the one that is there, and zeros in front of it.
use Prim.Native.Nat.{◌-◌}
use native.Mathlib.Omega.{arith}
use lib.ListN.{length}
use borrow.Rule.Slice.PartMut.{put_mid, same_len_mid}
use Rattle.std.proofs.lemmas.List.{length-drop}
use Rattle.std.proofs.lemmas.Slice.{take-put_mid_below}
use Rattle.text.proofs.Fronts.{zeros-kept}
use Rattle.text.proofs.printing.Printed.put_text.Goals as goal

pub invariant_of-self : goal.invariant_of-self
invariant_of-self c =
    let at = c.self.inside.at in
    let bytes = c.self.inside.bytes in
    let start = at - length c.args.text.now in
    let part = c.copy_from_slice.new.self in
    let stored = put_mid start (at - start) bytes part in
    let front = c.self.invariant.1 in (
      simp (length-drop, same_len_mid start (at - start) bytes part c.copy_from_slice.ensures.len) (omega (arith, c.self.told, c.requires)),
      zeros-kept start at bytes stored (omega arith) front (take-put_mid_below start (at - start) bytes part start (omega arith) (omega (arith, c.self.told))),
    )
