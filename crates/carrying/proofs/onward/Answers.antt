-- `onward` meets its contract by the law of moved marks, since its constants are those words; 49 bits fit a number of 64.
use mathlib.Core.Path.{◌≡◌, subst⁻¹}
use Prim.Native.Nat.{ℕ, ◌*◌, ◌/◌, ◌%◌, ◌^◌}
use native.Mathlib.Omega.{arith}
use lib.Bits.{bit_and, bit_or}
use lib.Pow.{shl_exact}
use Rattle.rows.specs.Rows.{packed_of}
use Rattle.carrying.specs.Carrying.{Onward}
use Rattle.rows.proofs.Cells.{lowest}
use Rattle.carrying.proofs.Shown.{others, onward-moves}
use Rattle.carrying.proofs.onward.Goals as goal

pub returns : goal.returns
unfolding packed_of
returns c =
    let e : (c.args.marks * 2 ^ 1) % 2 ^ 64 ≡ c.args.marks * 2 = shl_exact 48 1 64 c.requires (omega arith) in
    subst⁻¹ (λ (x : ℕ). Onward c.args.marks (bit_or (bit_and x others) (bit_and (c.args.marks / 4) lowest))) e (onward-moves c.args.marks)
