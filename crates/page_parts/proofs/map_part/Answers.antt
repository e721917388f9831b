-- Both ends are cut off at the map's end, and so is the part.
use Prim.Native.Nat.{◌*◌, ◌≤◌}
use native.Mathlib.Omega.{arith}
use native.Mathlib.Nat.{mul-le-mul}
use Rattle.codes.proofs.Layouts.{one_bit-map}
use Rattle.page_parts.proofs.Strips.{part_cut}
use Rattle.page_parts.proofs.map_part.Goals as goal

pub returns : goal.returns
returns c =
    rw (c.min-2.ensures, c.min.ensures, one_bit-map c.args.bytes)
    (part_cut (2 * c.args.bytes) c.args.k c.args.map.now)
