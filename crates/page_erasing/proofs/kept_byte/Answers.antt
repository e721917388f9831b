use mathlib.Core.Path.{◌≡◌, refl, sym, ◌∙◌, ap}
use Prim.Native.Nat.{ℕ, ◌+◌, ◌*◌, ◌%◌, ◌^◌, ◌<◌}
use native.Mathlib.Omega.{arith}
use Rattle.cells.specs.Places.{from_bits}
use Rattle.cells.specs.Marks.{kept_bit, kept_byte}
use Rattle.cells.proofs.Places.{number-next, number_fits}
use Rattle.cells.proofs.Marks.{kept_bit-bound, kept_bit-marked, kept_bit-other, kept_byte-none}
use Rattle.page_erasing.proofs.kept_byte.Goals as goal
use Rattle.page_erasing.proofs.kept_byte.Goals.{then-marked-third-eq1, else-marked-third-eq1}

-- one bit more
next : (byte marked third j out b : ℕ) → j < 8 → out ≡ from_bits j (kept_bit byte marked third) → b ≡ kept_bit byte marked third j → out + (b * 2 ^ j) % 256 ≡ from_bits (j + 1) (kept_bit byte marked third)
next byte marked third j out b h = number-next j 8 out b _ (kept_bit-bound byte marked third) h

pub returns-then-marked-eq0 : goal.returns-then-marked-eq0
returns-then-marked-eq0 c =
    let e : c.args.marked ≡ 0 = omega arith in
    rw e (sym (kept_byte-none c.args.byte c.args.third))

pub loop-j-init : goal.loop-j-init
unfolding from_bits
loop-j-init c = refl

pub overflow_add-out : goal.overflow_add-out
overflow_add-out c =
    let e = next c.args.byte c.args.marked c.args.third c.loop-j.j c.loop-j.out _ (omega arith) c.loop-j.invariant
    (sym (kept_bit-marked c.args.byte c.args.marked c.args.third c.loop-j.j c.if-marked-third-eq1.true)) in
    record { fits = omega (arith, e, number_fits (c.loop-j.j + 1) 8 _ (kept_bit-bound c.args.byte c.args.marked c.args.third) (omega arith)) }

pub loop-j-preserved : goal.loop-j-preserved
loop-j-preserved c =
    elim c.if-marked-third-eq1.branch [
      | then-marked-third-eq1 w ↦
          w.out-is ∙ next c.args.byte c.args.marked c.args.third c.loop-j.j c.loop-j.out _ (omega arith) c.loop-j.invariant
          (sym (kept_bit-marked c.args.byte c.args.marked c.args.third c.loop-j.j w.if-marked-third-eq1.true))
      | else-marked-third-eq1 w ↦
          let e = next c.args.byte c.args.marked c.args.third c.loop-j.j c.loop-j.out 0 (omega arith) c.loop-j.invariant
          (sym (kept_bit-other c.args.byte c.args.marked c.args.third c.loop-j.j w.if-marked-third-eq1.false)) in
          w.out-is ∙ omega (arith, e)
    ]

pub returns : goal.returns
unfolding kept_byte
returns c =
    let e : c.loop-j.j ≡ 8 = omega arith in
    c.loop-j.invariant ∙ ap (λ (n : ℕ). from_bits n (kept_bit c.args.byte c.args.marked c.args.third)) e
