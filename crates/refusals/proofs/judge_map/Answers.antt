-- A map's length is tested as by its ground; 2·L·S fits, as L and S are within their limits. Without a map there is nothing to test.
use Prim.Native.Nat.{◌*◌}
use native.Mathlib.Omega.{arith}
use native.Mathlib.Nat.{mul-le-mul}
use borrow.Author.Tests.{eq-eqb, ne_eqb}
use Rattle.codes.proofs.Layouts.{one_bit-map}
use Rattle.refusals.proofs.Refusals.{limits-most}
use Rattle.refusals.proofs.judge_map.Goals as goal

pub overflow_mul-bytes-in-Some : goal.overflow_mul-bytes-in-Some
overflow_mul-bytes-in-Some c =
    let l = limits-most c.args.bytes c.args.strips c.requires in
    omega (arith, mul-le-mul {n₁ = 2 * c.args.bytes} {m₁ = c.args.strips} {n₂ = 128} {m₂ = 64} (omega arith) l.1)

pub returns-then-size-bytes : goal.returns-then-size-bytes
returns-then-size-bytes c =
    rw c.in-Some.is (simp (one_bit-map c.args.bytes, ne_eqb c.in-Some.size (2 * c.args.bytes * c.args.strips) c.if-size-bytes.true))

pub returns-else-size-bytes : goal.returns-else-size-bytes
returns-else-size-bytes c = rw c.in-Some.is (simp (one_bit-map c.args.bytes, eq-eqb _ _ c.if-size-bytes.false))
