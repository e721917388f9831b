-- The test is that of the ground; 6·L·S fits, as L and S are within their limits.
use Prim.Native.Nat.{◌*◌}
use native.Mathlib.Omega.{arith}
use native.Mathlib.Nat.{mul-le-mul}
use borrow.Author.Tests.{eq-eqb, ne_eqb}
use Rattle.codes.proofs.Layouts.{one_bit-bytes}
use Rattle.refusals.specs.Refusals.{page_ground}
use Rattle.refusals.proofs.Refusals.{limits-most}
use Rattle.refusals.proofs.judge_page.Goals as goal

pub overflow_mul-bytes-2 : goal.overflow_mul-bytes-2
overflow_mul-bytes-2 c =
    let l = limits-most c.args.bytes c.args.strips c.requires in
    omega (arith, mul-le-mul {n₁ = 6 * c.args.bytes} {m₁ = c.args.strips} {n₂ = 384} {m₂ = 64} (omega arith) l.1)

pub returns-then-page-bytes : goal.returns-then-page-bytes
unfolding page_ground
returns-then-page-bytes c =
    simp (one_bit-bytes c.args.bytes, ne_eqb c.args.page (6 * c.args.bytes * c.args.strips) (λ e. let z : ⊥ = omega arith in z))

pub returns : goal.returns
unfolding page_ground
returns c = simp (one_bit-bytes c.args.bytes, eq-eqb _ _ c.if-page-bytes.false)
