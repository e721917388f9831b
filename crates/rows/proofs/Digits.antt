-- Digits of some bits each, packed into a number.
--   packed-less   n digits of w bits each fit n times w bits, and more (packed-fits)
--   packed-next   a digit more, and as a shift within 64 bits (packed_more), which it fits (more-fits)
--   packed-bits   b bits of digit i, from bit r on; the whole digit (packed-at)
--   packed-self   a number is packed from its digits
--   packed-times  a multiple of a packed number, by its digits, and a sum of two (packed-plus)
--   packed-same   packed from the same digits
use mathlib.Core.Path.{◌≡◌, refl, sym, ◌∙◌, ap, ap₂}
use mathlib.Core.Logic.{⊎_elim}
use Prim.Native.Nat.{ℕ, zero, suc, ◌+◌, ◌*◌, ◌-◌, ◌/◌, ◌%◌, ◌^◌, ◌<◌, ◌≤◌}
use native.Mathlib.Omega.{arith, ne_cases}
use native.Mathlib.Nat.{not-suc-le-zero, mod-eq_of_lt, mul_assoc, mul-add, add-mul, mul-le-mul_left, mul-le-mul_right, add-mul-div_right}
use native.Mathlib.Nat.{add-mul-mod_self_right}
use lib.Pow.{pow-add, pow_pos, pow_mono, high, shr-shr, shl_exact, mod-pow-add}
use Rattle.cells.proofs.Places.{same?}
use Rattle.cells.proofs.Parts.{within}
use Rattle.rows.specs.Rows.{packed_of}

-- BITS OF NUMBERS. What is added above some bits leaves them
bits_below : (x y r b e : ℕ) → (x + y * 2 ^ (e + b + r)) / 2 ^ r % 2 ^ b ≡ x / 2 ^ r % 2 ^ b
bits_below x y r b e =
    let m : y * 2 ^ (e + b + r) ≡ y * 2 ^ e * 2 ^ b * 2 ^ r =
    ap (λ (z : ℕ). y * z) (pow-add 2 (e + b) r ∙ ap (λ (z : ℕ). z * 2 ^ r) (pow-add 2 e b)) ∙ sym (mul_assoc y (2 ^ e * 2 ^ b) (2 ^ r))
    ∙ ap (λ (z : ℕ). z * 2 ^ r) (sym (mul_assoc y (2 ^ e) (2 ^ b))) in
    ap (λ (z : ℕ). (x + z) / 2 ^ r % 2 ^ b) m
    ∙ ap (λ (z : ℕ). z % 2 ^ b) (add-mul-div_right x (y * 2 ^ e * 2 ^ b) (pow_pos r))
    ∙ add-mul-mod_self_right (x / 2 ^ r) (y * 2 ^ e) (2 ^ b)

-- DIGITS of w bits each
module _ (w : ℕ) (f : ℕ → ℕ) (f-less : (i : ℕ) → f i < 2 ^ w) where
  -- n digits fit n times w bits
  pub packed-less : (n : ℕ) → packed_of w f n < 2 ^ (w * n)
  unfolding packed_of
  packed-less zero = let e : w * 0 ≡ 0 = omega arith in rw e (omega arith)
  packed-less (suc n) =
      let e : w * suc n ≡ w + w * n = omega arith in
      rw (e, pow-add 2 w (w * n)) (omega (arith, packed-less n, mul-le-mul_right (2 ^ (w * n)) (f-less n)))

  -- and any more bits
  pub packed-fits : (n m : ℕ) → n ≤ m → packed_of w f n < 2 ^ (w * m)
  packed-fits n m h = omega (arith, packed-less n, pow_mono (mul-le-mul_left w h))

  -- a digit more, at its place
  pub packed-next : (i : ℕ) {out x : ℕ} → out ≡ packed_of w f i → x ≡ f i * 2 ^ (w * i) → out + x ≡ packed_of w f (i + 1)
  unfolding packed_of
  packed-next i e h = let s : suc i ≡ i + 1 = omega arith in ap₂ ◌+◌ e h ∙ ap (packed_of w f) s

  -- a digit more, shifted to its place within 64 bits
  pub packed_more : (i out : ℕ) → w + w * i ≤ 64 → out ≡ packed_of w f i → out + (f i * 2 ^ (w * i)) % 2 ^ 64 ≡ packed_of w f (i + 1)
  packed_more i out h e = packed-next i e (shl_exact w (w * i) 64 (f-less i) h)

  -- which that fits
  pub more-fits : (i out : ℕ) → w + w * i ≤ 64 → out ≡ packed_of w f i → out + (f i * 2 ^ (w * i)) % 2 ^ 64 < 2 ^ 64
  more-fits i out h e =
      let l : w * (i + 1) ≤ 64 = omega arith in
      omega (arith, packed_more i out h e, packed-less (i + 1), pow_mono l)

  -- b bits of digit i, from its bit r on
  pub packed-bits : (n i r b : ℕ) → i < n → r + b ≤ w → packed_of w f n / 2 ^ (w * i + r) % 2 ^ b ≡ f i / 2 ^ r % 2 ^ b
  unfolding packed_of
  packed-bits zero i r b h l = absurd (not-suc-le-zero h)
  packed-bits (suc n) i r b h l =
      let p = packed_of w f n in
      ⊎_elim
      (λ e.
      let x : p + f n * 2 ^ (w * n) ≡ f n * 2 ^ (w * n) + p = omega arith in
      rw e (ap (λ (y : ℕ). y % 2 ^ b) (sym (shr-shr (p + f n * 2 ^ (w * n)) (w * n) r)
      ∙ ap (λ (y : ℕ). y / 2 ^ r) (ap (λ (y : ℕ). y / 2 ^ (w * n)) x ∙ high (f n) (w * n) (packed-less n)))))
      (λ d.
      let k : i < n = ne_cases i n (i < n) d (λ z. z) (λ z. omega arith) in
      let t = w * n - (w * i + r) - b in
      let s : w * n ≡ t + b + (w * i + r) = omega (arith, within w i n k) in
      ap (λ (z : ℕ). (p + f n * 2 ^ z) / 2 ^ (w * i + r) % 2 ^ b) s ∙ bits_below p (f n) (w * i + r) b t ∙ packed-bits n i r b k l)
      (same? i n)

  -- digit i
  pub packed-at : (n i : ℕ) → i < n → packed_of w f n / 2 ^ (w * i) % 2 ^ w ≡ f i
  packed-at n i h =
      let z : w * i + 0 ≡ w * i = omega arith in
      let y : f i / 1 ≡ f i = omega arith in
      ap (λ (k : ℕ). packed_of w f n / 2 ^ k % 2 ^ w) (sym z)
      ∙ packed-bits n i 0 w h (omega arith)
      ∙ ap (λ (x : ℕ). x % 2 ^ w) y
      ∙ mod-eq_of_lt (f-less i)

-- a number is packed from its digits
pub packed-self : (w x n : ℕ) → packed_of w (λ i. x / 2 ^ (w * i) % 2 ^ w) n ≡ x % 2 ^ (w * n)
unfolding packed_of
packed-self w x zero = let e : w * 0 ≡ 0 = omega arith in rw e (omega arith)
packed-self w x (suc n) =
    let e : w * suc n ≡ w + w * n = omega arith in
    rw (e, mod-pow-add x w (w * n)) (omega (arith, packed-self w x n))

-- two packed numbers added, digit by digit
pub packed-plus : (w : ℕ) (f g : ℕ → ℕ) (n : ℕ) → packed_of w f n + packed_of w g n ≡ packed_of w (λ i. f i + g i) n
unfolding packed_of
packed-plus w f g zero = refl
packed-plus w f g (suc n) =
    omega (arith, packed-plus w f g n, add-mul (f n) (g n) (2 ^ (w * n)))

-- packed from the same digits
pub packed-same : (w : ℕ) (f g : ℕ → ℕ) (n : ℕ) → ((i : ℕ) → i < n → f i ≡ g i) → packed_of w f n ≡ packed_of w g n
unfolding packed_of
packed-same w f g zero e = refl
packed-same w f g (suc n) e =
    ap₂ (λ (x y : ℕ). x + y * 2 ^ (w * n)) (packed-same w f g n (λ i h. e i (omega arith))) (e n (omega arith))

-- a multiple of a packed number
pub packed-times : (w k : ℕ) (f : ℕ → ℕ) (n : ℕ) → k * packed_of w f n ≡ packed_of w (λ i. k * f i) n
unfolding packed_of
packed-times w k f zero = omega arith
packed-times w k f (suc n) =
    mul-add k (packed_of w f n) (f n * 2 ^ (w * n)) ∙ ap₂ ◌+◌ (packed-times w k f n) (sym (mul_assoc k (f n) (2 ^ (w * n))))
