-- Where it refuses, one half of `can_rise` fails. Otherwise both hold, so the first zero is there, and to set it is to raise the cell.
-- The number that the code passes is `start_of cell`.
use mathlib.Core.Path.{sym, ◌∙◌, ap}
use Prim.Native.Nat.{◌<◌, ◌+◌, ◌*◌}
use native.Mathlib.Omega.{arith}
use lib.ListN.{length}
use Rattle.cells.specs.Bytes.{Octets, with_bit}
use Rattle.cells.specs.Levels.{level}
use Rattle.cells.specs.Raising.{start_of}
use Rattle.cells.proofs.Raising.{can_rise-yes, can_rise-outside, can_rise-full, zero_from-unset, with_bit-raises}
use Rattle.cells.proofs.raise.Goals.{then-bytes-k-via-then-bytes-k, then-bytes-k-via-else-bytes-k+then-level-eq3}
use Rattle.cells.proofs.raise.Goals as goal

pub returns-then-bytes-k-clause-value : goal.returns-then-bytes-k-clause-value
returns-then-bytes-k-clause-value c =
    elim c.then-bytes-k.branch [
      | then-bytes-k-via-then-bytes-k w ↦ sym (can_rise-outside _ _ (omega arith))
      | then-bytes-k-via-else-bytes-k+then-level-eq3 w ↦ sym (can_rise-full _ _ (sym w.level.ensures.0 ∙ w.if-level-eq3.true))
    ]

pub set_bit-requires : goal.set_bit-requires
set_bit-requires c =
    let inside : 3 * c.args.cell + 2 < 8 * length c.args.bytes.now = omega arith in
    let low : level c.args.bytes.now c.args.cell < 3 = omega arith in
    rw c.zero_from-z.ensures (zero_from-unset _ _ _ inside low)

pub returns : goal.returns
unfolding start_of
returns c =
    let octets : Octets c.args.bytes.now = record { below = λ q h. omega (arith, c.slice_known-1.given q) } in
    let inside : 3 * c.args.cell + 2 < 8 * length c.args.bytes.now = omega arith in
    let low : level c.args.bytes.now c.args.cell < 3 = omega arith in
    let raises = with_bit-raises start_of _ _ inside low octets in
    record {
      value = sym (can_rise-yes _ _ inside low);
      bytes_after = c.set_bit.ensures ∙ ap (with_bit _) c.zero_from-z.ensures ∙ raises;
    }
