-- The bit is 0, so adding its worth to its byte sets it, and the byte stays a byte.
use Prim.Native.Nat.{◌<◌, ◌/◌, ◌%◌}
use native.Mathlib.Omega.{arith}
use native.Mathlib.Nat.{mod-lt, zero-lt-suc}
use lib.ListN.{get_or}
use Rattle.cells.specs.Bytes.{bit_of, with_bit}
use Rattle.cells.proofs.Places.{one_shl}
use Rattle.cells.proofs.Bytes.{byte_fits}
use Rattle.cells.proofs.set_bit.Goals as goal

pub overflow_add-bytes : goal.overflow_add-bytes
unfolding bit_of
overflow_add-bytes c =
    let x = get_or c.args.bytes.now (c.args.k / 8) 0 in
    let p : c.args.k % 8 < 8 = mod-lt c.args.k (zero-lt-suc 7) in
    let q = byte_fits x (c.args.k % 8) p (omega (arith, c.slice_known-1.given (c.args.k / 8))) c.requires.zero_there in
    rw (one_shl (c.args.k % 8) 8 p) (record { fits = q })

pub returns : goal.returns
unfolding with_bit
returns c = rw (one_shl (c.args.k % 8) 8 (mod-lt c.args.k (zero-lt-suc 7)))
