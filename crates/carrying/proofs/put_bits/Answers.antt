-- `put_bits` meets its contract: six bytes copied are six stores, one after the other.
use mathlib.Core.Path.{◌≡◌, refl, ap}
use mathlib.Core.List.{List, [], ◌∷◌}
use Prim.Native.Nat.{ℕ, zero, suc, ◌+◌, ◌*◌, ◌/◌, ◌-◌, ◌≤◌}
use native.Mathlib.Omega.{arith}
use lib.ListN.{length, set}
use borrow.Rule.Slice.PartMut.{put_mid}
use Rattle.carrying.specs.Carrying.{byte_in, with_bits}
use Rattle.carrying.proofs.put_bits.Goals as goal

-- six numbers in the place of six
six-stored : (p : ℕ) (l : List ℕ) (a b c d e f : ℕ) → p + 6 ≤ length l
    → put_mid p 6 l (a ∷ b ∷ c ∷ d ∷ e ∷ f ∷ []) ≡ set (set (set (set (set (set l p a) (p + 1) b) (p + 2) c) (p + 3) d) (p + 4) e) (p + 5) f
six-stored zero (u ∷ v ∷ w ∷ x ∷ y ∷ z ∷ l) a b c d e f h = refl
six-stored (suc p) (x ∷ l) a b c d e f h =
    let s : (k : ℕ) → suc p + k ≡ suc (p + k) = λ k. omega arith in
    rw (s 1, s 2, s 3, s 4, s 5) (ap (λ (k : List ℕ). x ∷ k) (six-stored p l a b c d e f (omega arith)))
six-stored zero [] a b c d e f h = absurd (let z : ⊥ = omega arith in z)
six-stored zero (u ∷ []) a b c d e f h = absurd (let z : ⊥ = omega arith in z)
six-stored zero (u ∷ v ∷ []) a b c d e f h = absurd (let z : ⊥ = omega arith in z)
six-stored zero (u ∷ v ∷ w ∷ []) a b c d e f h = absurd (let z : ⊥ = omega arith in z)
six-stored zero (u ∷ v ∷ w ∷ x ∷ []) a b c d e f h = absurd (let z : ⊥ = omega arith in z)
six-stored zero (u ∷ v ∷ w ∷ x ∷ y ∷ []) a b c d e f h = absurd (let z : ⊥ = omega arith in z)
six-stored (suc p) [] a b c d e f h = absurd (let z : ⊥ = omega arith in z)

pub returns : goal.returns
unfolding with_bits byte_in
returns c =
    let n : 6 * c.args.q + 6 - 6 * c.args.q ≡ 6 = omega arith in
    let e : c.args.bits / 1 ≡ c.args.bits = omega arith in
    rw (c.copy_from_slice.ensures.after, c.to_le_bytes.ensures, n, e) (six-stored (6 * c.args.q) c.args.strip.now _ _ _ _ _ _ c.requires.0)
