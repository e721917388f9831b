use mathlib.Core.Path.{◌≡◌, refl, ap, ◌∙◌}
use Prim.Native.Nat.{ℕ, suc, ◌+◌, ◌*◌, ◌-◌, ◌/◌, ◌%◌, ◌^◌, ◌≤◌}
use native.Mathlib.Omega.{arith}
use borrow.Author.Rules.{rules}
use Rattle.cells.specs.Places.{from_bits}
use Rattle.codes.specs.Generators.{digit}
use Rattle.codes.specs.Taps.{taps_of}
use Rattle.cells.proofs.Places.{number-next, number_fits}
use Rattle.codes.proofs.Generators.{digit-bound}
use Rattle.codes.proofs.parities.taps.Goals as goal

-- one digit more
more : (memory generator i : ℕ) {sum : ℕ} → memory ≤ 6 → i ≤ memory → sum ≡ from_bits i (digit memory generator)
    → sum + (generator / 2 ^ (memory - i) % 2 * 2 ^ i) % 2 ^ 32 ≡ from_bits (i + 1) (digit memory generator)
unfolding digit
more memory generator i {sum} h k e = number-next i 32 sum _ _ (digit-bound memory generator) (omega arith) e refl

pub loop-i-preserved : goal.loop-i-preserved
loop-i-preserved c = more c.args.memory c.args.generator c.loop-i.i (omega arith) (omega arith) c.loop-i.invariant

pub loop-i-init : goal.loop-i-init
unfolding from_bits
loop-i-init c = search rules

pub overflow_add-sum : goal.overflow_add-sum
overflow_add-sum c =
    let e = more c.args.memory c.args.generator c.loop-i.i (omega arith) (omega arith) c.loop-i.invariant in
    omega (arith, e, number_fits (c.loop-i.i + 1) 32 _ (digit-bound c.args.memory c.args.generator) (omega arith))

pub returns-2 : goal.returns-2
unfolding taps_of
returns-2 c =
    let e = more c.args.memory c.args.generator c.loop-i.i (omega arith) (omega arith) c.loop-i.invariant in
    let n : c.loop-i.i + 1 ≡ suc c.args.memory = omega arith in (
      e ∙ ap (λ (n : ℕ). from_bits n (digit c.args.memory c.args.generator)) n,
      omega (arith, e, number_fits (c.loop-i.i + 1) 7 _ (digit-bound c.args.memory c.args.generator) (omega arith)),
    )
