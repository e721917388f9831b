-- Six bytes, each at its place, are the number that the definition says.
use mathlib.Core.Path.{◌≡◌, refl, ap}
use Prim.Native.Nat.{ℕ, ◌+◌, ◌*◌}
use native.Mathlib.Omega.{arith}
use lib.ListN.{get_or}
use Rattle.rows.specs.Rows.{bits_at, packed_of}
use Rattle.rows.proofs.Digits.{packed_more, more-fits}
use Rattle.rows.proofs.bits_of.Goals as goal

pub loop-k-init : goal.loop-k-init
unfolding packed_of
loop-k-init c = refl

pub loop-k-preserved : goal.loop-k-preserved
loop-k-preserved c =
    packed_more 8 (λ k. get_or c.args.strip.now (6 * c.args.q + k) 0) (λ k. omega (arith, c.type_inv.strip (6 * c.args.q + k))) c.loop-k.k c.loop-k.bits (omega arith)
    c.loop-k.invariant

pub overflow_add-bits-in-loop-k : goal.overflow_add-bits-in-loop-k
overflow_add-bits-in-loop-k c =
    record {
      fits = more-fits 8 (λ k. get_or c.args.strip.now (6 * c.args.q + k) 0) (λ k. omega (arith, c.type_inv.strip (6 * c.args.q + k))) c.loop-k.k c.loop-k.bits (omega arith)
          c.loop-k.invariant;
    }

pub returns : goal.returns
unfolding bits_at packed_of
returns c =
    let n : c.loop-k.k ≡ 6 = omega arith in
    let e : 6 * c.args.q + 0 ≡ 6 * c.args.q = omega arith in
    omega (arith, rw n at c.loop-k.invariant, ap (λ (k : ℕ). get_or c.args.strip.now k 0) e)
