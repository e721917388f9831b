-- Laws of sequences of bits: the convolution is additive, commutes with the shift and with itself, depends on no later stage, and loses
-- nothing where digit 0 is 1.
--   +₂-assoc, +₂-comm, +₂-again           the sum of bits
--   odd-add, odd-mul                      the oddness of a sum and of a product
--   odd-mod-two                           oddness by the remainder mod 2
--   odd-only                              a number below 2 by its oddness
--   ⊕-assoc, ⊕-comm, ⊕-twice              the sum of sequences
--   conv-⊕, conv-comm                     the convolution of a sum, and of a convolution
--   agree_refl, agree_trans, agree-down   what agrees below a stage
--   agree-⊕, agree-conv                   still does after a sum, and after a convolution
--   conv-inj                              where digit 0 is 1, convolutions that agree are of sequences that agree
use mathlib.Core.Path.{◌≡◌, refl, sym, ◌∙◌, ap, ap₂, fun_ext}
use mathlib.Core.Bool.{Bool, true, false, ◌&&◌, not, not-not}
use mathlib.Core.List.{List, [], ◌∷◌}
use Prim.Native.Nat.{ℕ, zero, suc, ◌<◌, ◌+◌, ◌*◌, ◌%◌}
use native.Mathlib.Omega.{arith}
use native.Mathlib.Nat.{not-suc-le-zero}
use Rattle.codes.specs.Sequences.{◌+₂◌, Bits, zeros, ◌⊕◌, scale, shift, conv, Agree, odd}

-- BITS. The laws of their sum
+₂-assoc : (a b c : Bool) → a +₂ b +₂ c ≡ a +₂ (b +₂ c)
+₂-assoc false false false = refl
+₂-assoc false false true = refl
+₂-assoc false true false = refl
+₂-assoc false true true = refl
+₂-assoc true false false = refl
+₂-assoc true false true = refl
+₂-assoc true true false = refl
+₂-assoc true true true = refl

+₂-comm : (a b : Bool) → a +₂ b ≡ b +₂ a
+₂-comm false false = refl
+₂-comm false true = refl
+₂-comm true false = refl
+₂-comm true true = refl

+₂-self : (a : Bool) → a +₂ a ≡ false
+₂-self false = refl
+₂-self true = refl

+₂-false : (a : Bool) → a +₂ false ≡ a
+₂-false false = refl
+₂-false true = refl

&&-+₂ : (g a b : Bool) → (g && (a +₂ b)) ≡ (g && a) +₂ (g && b)
&&-+₂ true a b = refl
&&-+₂ false a b = refl

&&-false : (g : Bool) → (g && false) ≡ false
&&-false true = refl
&&-false false = refl

-- what is added twice goes
pub +₂-again : (a b : Bool) → a +₂ b +₂ b ≡ a
+₂-again a b = rw (+₂-assoc a b b, +₂-self b, +₂-false a)

-- ODD. A sum is odd if just one of the two is
pub odd-add : (x y : ℕ) → odd (x + y) ≡ odd x +₂ odd y
unfolding odd
odd-add zero y = let e : 0 + y ≡ y = omega arith in rw (e, +₂-comm false (odd y), +₂-false (odd y))
odd-add (suc x) y = let e : suc x + y ≡ suc (x + y) = omega arith in rw (e, odd-add x y) (go (odd x) (odd y))
  where
    go : (c d : Bool) → not (c +₂ d) ≡ not c +₂ d
    go false false = refl
    go false true = refl
    go true false = refl
    go true true = refl

-- a product is odd if both are
pub odd-mul : (x y : ℕ) → odd (x * y) ≡ (odd x && odd y)
unfolding odd
odd-mul zero y = let e : 0 * y ≡ 0 = omega arith in rw e
odd-mul (suc x) y = let e : suc x * y ≡ y + x * y = omega arith in rw (e, odd-add y (x * y), odd-mul x y) (go (odd x) (odd y))
  where
    go : (c d : Bool) → d +₂ (c && d) ≡ (not c && d)
    go false false = refl
    go false true = refl
    go true false = refl
    go true true = refl

-- a number is odd just if its remainder mod 2 is
pub odd-mod-two : (x : ℕ) → odd (x % 2) ≡ odd x
unfolding odd
odd-mod-two zero = refl
odd-mod-two (suc zero) = refl
odd-mod-two (suc (suc x)) = let e : suc (suc x) % 2 ≡ x % 2 = omega arith in rw e (odd-mod-two x ∙ sym (not-not (odd x)))

-- numbers below 2 of the same oddness are the same
pub odd-only : (x y : ℕ) → x < 2 → y < 2 → odd x ≡ odd y → x ≡ y
unfolding odd
odd-only zero zero h k e = refl
odd-only zero (suc zero) h k e = absurd (let z : ◌≡◌ {A = ℕ} 0 1 = cc in omega arith)
odd-only (suc zero) zero h k e = absurd (let z : ◌≡◌ {A = ℕ} 0 1 = cc in omega arith)
odd-only (suc zero) (suc zero) h k e = refl
odd-only (suc (suc x)) y h k e = absurd (let z : ⊥ = omega arith in z)
odd-only zero (suc (suc y)) h k e = absurd (let z : ⊥ = omega arith in z)
odd-only (suc zero) (suc (suc y)) h k e = absurd (let z : ⊥ = omega arith in z)

-- SEQUENCES. The laws of their sum
⊕-assoc : (x y z : Bits) → x ⊕ y ⊕ z ≡ x ⊕ (y ⊕ z)
unfolding ◌⊕◌
⊕-assoc x y z = fun_ext λ t. +₂-assoc (x t) (y t) (z t)

⊕-comm : (x y : Bits) → x ⊕ y ≡ y ⊕ x
unfolding ◌⊕◌
⊕-comm x y = fun_ext λ t. +₂-comm (x t) (y t)

⊕-left : (x y z : Bits) → x ⊕ (y ⊕ z) ≡ y ⊕ (x ⊕ z)
⊕-left x y z = sym (⊕-assoc x y z) ∙ ap (λ (w : Bits). w ⊕ z) (⊕-comm x y) ∙ ⊕-assoc y x z

⊕-self : (x : Bits) → x ⊕ x ≡ zeros
unfolding ◌⊕◌ zeros
⊕-self x = fun_ext λ t. +₂-self (x t)

⊕-zeros : (x : Bits) → x ⊕ zeros ≡ x
unfolding ◌⊕◌ zeros
⊕-zeros x = fun_ext λ t. +₂-false (x t)

zeros-⊕ : (x : Bits) → zeros ⊕ x ≡ x
zeros-⊕ x = ⊕-comm zeros x ∙ ⊕-zeros x

-- what is added twice goes
pub ⊕-twice : (x y : Bits) → x ⊕ (x ⊕ y) ≡ y
⊕-twice x y = sym (⊕-assoc x x y) ∙ ap (λ (w : Bits). w ⊕ y) (⊕-self x) ∙ zeros-⊕ y

-- scale, shift and conv go through sums and through each other
scale-⊕ : (g : Bool) (x y : Bits) → scale g (x ⊕ y) ≡ scale g x ⊕ scale g y
unfolding ◌⊕◌ scale
scale-⊕ g x y = fun_ext λ t. &&-+₂ g (x t) (y t)

scale-zeros : (g : Bool) → scale g zeros ≡ zeros
unfolding zeros scale
scale-zeros g = fun_ext λ t. &&-false g

scale-false : (x : Bits) → scale false x ≡ zeros
unfolding zeros scale
scale-false x = refl

scale-true : (x : Bits) → scale true x ≡ x
unfolding scale
scale-true x = refl

-- sequences are the same if they are at stage 0 and after it
by-stage : {x y : Bits} → x 0 ≡ y 0 → ((t : ℕ) → x (suc t) ≡ y (suc t)) → x ≡ y
by-stage {x} {y} a b = fun_ext go
  where
    go : (t : ℕ) → x t ≡ y t
    go zero = a
    go (suc t) = b t

shift-⊕ : (x y : Bits) → shift (x ⊕ y) ≡ shift x ⊕ shift y
unfolding ◌⊕◌ shift
shift-⊕ x y = by-stage refl (λ t. refl)

shift-zeros : shift zeros ≡ zeros
unfolding zeros shift
shift-zeros = by-stage refl (λ t. refl)

shift-scale : (g : Bool) (x : Bits) → shift (scale g x) ≡ scale g (shift x)
unfolding scale shift
shift-scale g x = by-stage (sym (&&-false g)) (λ t. refl)

-- the clauses of conv as equations
conv-nil : (x : Bits) → conv [] x ≡ zeros
unfolding conv
conv-nil x = refl

conv-cons : (g : Bool) (gs : List Bool) (x : Bits) → conv (g ∷ gs) x ≡ scale g x ⊕ shift (conv gs x)
unfolding conv
conv-cons g gs x = refl

-- conv of zeros is zeros
conv-zeros : (g : List Bool) → conv g zeros ≡ zeros
conv-zeros [] = conv-nil zeros
conv-zeros (g ∷ gs) = simp (conv-cons, conv-zeros gs, scale-zeros, shift-zeros, ⊕-zeros)

-- conv is linear
pub conv-⊕ : (g : List Bool) (x y : Bits) → conv g (x ⊕ y) ≡ conv g x ⊕ conv g y
conv-⊕ [] x y = simp (conv-nil, ⊕-zeros)
conv-⊕ (g ∷ gs) x y = simp (conv-cons, conv-⊕ gs x y, scale-⊕, shift-⊕, ⊕-assoc, ⊕-left)

-- conv commutes with shift
conv-shift : (g : List Bool) (x : Bits) → conv g (shift x) ≡ shift (conv g x)
conv-shift [] x = simp (conv-nil, shift-zeros)
conv-shift (g ∷ gs) x = simp (conv-cons, conv-shift gs x, shift-⊕, shift-scale)

-- conv commutes with scale
conv-scale : (g : List Bool) (b : Bool) (x : Bits) → conv g (scale b x) ≡ scale b (conv g x)
conv-scale [] b x = simp (conv-nil, scale-zeros)
conv-scale (g ∷ gs) true x = simp scale-true
conv-scale (g ∷ gs) false x = simp (scale-false, conv-zeros)

-- conv commutes with conv
pub conv-comm : (g h : List Bool) (x : Bits) → conv g (conv h x) ≡ conv h (conv g x)
conv-comm [] h x = simp (conv-nil, conv-zeros)
conv-comm (g ∷ gs) h x = simp (conv-cons, conv-comm gs h x, conv-⊕, conv-scale, conv-shift)

-- causality: what stands below stage n depends on what stands below stage n
pub agree_refl : (n : ℕ) (x : Bits) → Agree n x x
agree_refl n x = record { at = λ t h. refl }

pub agree_trans : {n : ℕ} {x y z : Bits} → Agree n x y → Agree n y z → Agree n x z
agree_trans e f = record { at = λ t h. e.at t h ∙ f.at t h }

-- sums agree where their parts do
pub agree-⊕ : {n : ℕ} {x y v w : Bits} → Agree n x y → Agree n v w → Agree n (x ⊕ v) (y ⊕ w)
unfolding ◌⊕◌
agree-⊕ e f = record { at = λ t h. ap₂ (λ (a b : Bool). a +₂ b) (e.at t h) (f.at t h) }

agree-scale : (g : Bool) {n : ℕ} {x y : Bits} → Agree n x y → Agree n (scale g x) (scale g y)
unfolding scale
agree-scale g e = record { at = λ t h. ap (λ (a : Bool). g && a) (e.at t h) }

agree-shift : {n : ℕ} {x y : Bits} → Agree n x y → Agree (suc n) (shift x) (shift y)
unfolding shift
agree-shift {n} {x} {y} e = record { at = go }
  where
    go : (t : ℕ) → t < suc n → shift x t ≡ shift y t
    go zero h = refl
    go (suc t) h = e.at t (omega arith)

-- what agrees below a stage agrees below an earlier one
pub agree-down : {n : ℕ} {x y : Bits} → Agree (suc n) x y → Agree n x y
agree-down e = record { at = λ t h. e.at t (omega arith) }

-- conv is causal
pub agree-conv : {n : ℕ} (g : List Bool) {x y : Bits} → Agree n x y → Agree n (conv g x) (conv g y)
agree-conv {n} [] e = simp conv-nil (agree_refl n zeros)
agree-conv (g ∷ gs) e = simp conv-cons (agree-⊕ (agree-scale g e) (agree-down (agree-shift (agree-conv gs e))))

-- a generator whose digit 0 is 1 loses nothing, below stage n
pub conv-inj : (n : ℕ) (gs : List Bool) (u v : Bits) → Agree n (conv (true ∷ gs) u) (conv (true ∷ gs) v) → Agree n u v
unfolding conv scale ◌⊕◌
conv-inj zero gs u v e = record { at = λ t h. absurd (not-suc-le-zero h) }
conv-inj (suc n) gs u v e =
    let s : Agree (suc n) (shift (conv gs u)) (shift (conv gs v)) = agree-shift (agree-conv gs (conv-inj n gs u v (agree-down e))) in
    record { at = λ t h. sym (+₂-again (u t) _) ∙ ap₂ (λ (a b : Bool). a +₂ b) (e.at t h) (s.at t h) ∙ +₂-again (v t) _ }
