-- The tests are those of the ground; L·S fits, as L and S are within their limits, and so does the count times that, a number of 32 bits.
use Prim.Native.Nat.{◌*◌}
use native.Mathlib.Omega.{arith}
use native.Mathlib.Nat.{mul-le-mul}
use borrow.Author.Tests.{eq-eqb, ne_eqb}
use Rattle.refusals.specs.Refusals.{datas_ground}
use Rattle.refusals.proofs.Refusals.{limits-size}
use Rattle.refusals.proofs.judge_data.Goals as goal

pub overflow_mul-one : goal.overflow_mul-one
overflow_mul-one c = omega (arith, limits-size c.args.bytes c.args.strips c.requires)

pub returns-then-data-one : goal.returns-then-data-one
unfolding datas_ground
returns-then-data-one c =
    rw c.in-None.is
    (simp (ne_eqb c.args.data (c.args.bytes * c.args.strips) (λ e. let z : ⊥ = omega arith in z)))

pub overflow_mul-n : goal.overflow_mul-n
overflow_mul-n c =
    omega (
      arith,
      mul-le-mul {n₁ = c.in-Some.n} {m₁ = c.args.bytes * c.args.strips} {n₂ = 4294967295} {m₂ = 4096} (omega arith)
          (limits-size c.args.bytes c.args.strips c.requires),
    )

pub returns-then-data-n : goal.returns-then-data-n
unfolding datas_ground
returns-then-data-n c = rw c.in-Some.is (simp (ne_eqb c.args.data (c.in-Some.n * (c.args.bytes * c.args.strips)) (λ e. let z : ⊥ = omega arith in z)))

pub returns-else-data-one : goal.returns-else-data-one
unfolding datas_ground
returns-else-data-one c = rw c.in-None.is (simp (eq-eqb _ _ c.if-data-one.false))

pub returns-else-data-n : goal.returns-else-data-n
unfolding datas_ground
returns-else-data-n c = rw c.in-Some.is (simp (eq-eqb _ _ c.if-data-n.false))
