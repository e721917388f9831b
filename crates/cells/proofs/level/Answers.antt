-- The two bytes, the second shifted past the first, hold the three bits in a row, and the mask leaves these three.
use Prim.Native.Nat.{◌+◌, ◌*◌, ◌/◌, ◌%◌, ◌^◌}
use native.Mathlib.Nat.{mod-lt, zero-lt-suc}
use lib.Bits.{and_mask}
use lib.Count.{ones-le}
use Rattle.cells.specs.Levels.{level}
use Rattle.cells.proofs.Levels.{three-bits}
use Rattle.cells.proofs.level.Goals as goal

pub returns : goal.returns
unfolding level
returns c =
    let k = 3 * c.args.cell in
    let t = (c.byte.result + c.byte-2.result * 256) / 2 ^ (k % 8) in (
      rw (and_mask t 3) (three-bits c.args.bytes.now k c.byte.ensures c.byte-2.ensures),
      rw (and_mask t 3) (ones-le 3 (t % 8) (mod-lt t (zero-lt-suc 7))),
    )
