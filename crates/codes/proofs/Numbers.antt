-- Laws of bits and lists of bits as numbers: what the program computes with taps and windows is what the laws say of lists of bits.
--   one-if-le, odd-one-if, one-if-odd   a bit as a number, and back
--   sum-bits                            the sum of two bits
--   value-zeros, value-take             a list of bits as a number: zeros, and its first bits
--   parity-dot                          a parity is the sum of digits times bits
--   taps-value                          the taps of a generator are its digits
use mathlib.Core.Path.{◌≡◌, refl, sym, ◌∙◌, ap, ap₂}
use mathlib.Core.Bool.{Bool, true, false, ◌&&◌}
use mathlib.Core.List.{List, [], ◌∷◌}
use Prim.Native.Nat.{ℕ, zero, suc, ◌<◌, ◌≤◌, ◌+◌, ◌*◌, ◌/◌, ◌%◌, ◌^◌, min}
use native.Mathlib.Omega.{arith}
use native.Mathlib.Nat.{mod-one, zero-mod, pow-suc, mod-lt, zero-lt-suc}
use lib.Arith.{mod-mul}
use lib.Pow.{pow_pos}
use lib.Bits.{bit_and, and_step, and_zero_l, and_zero_r}
use lib.Count.{ones}
use lib.ListN.{get_or, take, replicate}
use Rattle.cells.specs.Places.{list_of, from_bits}
use Rattle.codes.specs.Generators.{digit}
use Rattle.codes.specs.Taps.{taps_of, parity_of}
use Rattle.codes.specs.Sequences.{◌+₂◌, odd}
use Rattle.codes.specs.Registers.{dot}
use Rattle.codes.specs.Numbers.{one-if, value}
use Rattle.codes.specs.Encoders.{digit_bits}
use Rattle.codes.proofs.Sequences.{odd-add, odd-mod-two, odd-only}
use Rattle.codes.proofs.Generators.{digit-bound}
use Rattle.codes.proofs.Taps.{ones-pair}

-- BITS. A bit is at most 1
pub one-if-le : (b : Bool) → one-if b ≤ 1
unfolding one-if
one-if-le true = omega arith
one-if-le false = omega arith

-- a bit from its number
pub odd-one-if : (b : Bool) → odd (one-if b) ≡ b
unfolding odd one-if
odd-one-if true = refl
odd-one-if false = refl

-- a number below 2 is the number of its bit
pub one-if-odd : (n : ℕ) → n < 2 → one-if (odd n) ≡ n
one-if-odd n h = odd-only (one-if (odd n)) n (omega (arith, one-if-le (odd n))) h (odd-one-if (odd n))

-- the sum of two bits
pub sum-bits : (a b : Bool) → (one-if a + one-if b) % 2 ≡ one-if (a +₂ b)
unfolding one-if
sum-bits true true = refl
sum-bits true false = refl
sum-bits false true = refl
sum-bits false false = refl

-- LISTS. The first bit is the number mod 2
value-first : (s : List Bool) → value s % 2 ≡ one-if (get_or s 0 false)
unfolding value one-if
value-first [] = refl
value-first (b ∷ s) = let l : one-if b ≤ 1 = one-if-le b in omega arith

-- and the bits after it are its half
value-half : (b : Bool) (s : List Bool) → value (b ∷ s) / 2 ≡ value s
unfolding value
value-half b s = let l : one-if b ≤ 1 = one-if-le b in omega arith

-- zeros
pub value-zeros : (m : ℕ) → value (replicate m false) ≡ 0
unfolding value one-if
value-zeros zero = refl
value-zeros (suc m) = let e : value (replicate m false) ≡ 0 = value-zeros m in omega arith

-- the first m bits are the number mod 2 ^ m
pub value-take : (m : ℕ) (s : List Bool) → value (take m s) ≡ value s % 2 ^ m
unfolding value
value-take zero s = sym (mod-one (value s))
value-take (suc m) [] = sym (zero-mod (2 ^ suc m))
value-take (suc m) (b ∷ s) =
    let x : ℕ = value (b ∷ s) in
    let e : x % (2 ^ m * 2) ≡ x / 2 % 2 ^ m * 2 + x % 2 = mod-mul x (pow_pos m) (zero-lt-suc 1) in
    rw (pow-suc 2 m, e, value-half b s, value-first (b ∷ s), value-take m s) (omega arith)

-- THE PARITY of the taps that meet a one is the sum of digits and bits
min-bits : (g u : Bool) → odd (min (one-if g) (one-if u)) ≡ (g && u)
unfolding one-if odd
min-bits true true = refl
min-bits true false = refl
min-bits false true = refl
min-bits false false = refl

ones-dot : (G s : List Bool) → odd (ones (bit_and (value G) (value s))) ≡ dot G s
unfolding dot value ones odd
ones-dot [] s = ap (λ (x : ℕ). odd (ones x)) (and_zero_l (value s))
ones-dot (g ∷ gs) [] = ap (λ (x : ℕ). odd (ones x)) (and_zero_r (one-if g + 2 * value gs))
ones-dot (g ∷ gs) (u ∷ us) =
    let l : one-if g ≤ 1 = one-if-le g in
    let r : ℕ = min (one-if g) (one-if u) in
    let e : bit_and (value (g ∷ gs)) (value (u ∷ us)) ≡ bit_and (value gs) (value us) * 2 + r =
    rw (and_step (value (g ∷ gs)) (value (u ∷ us)), value-half g gs, value-half u us, value-first (g ∷ gs), value-first (u ∷ us)) in
    ap (λ (x : ℕ). odd (ones x)) e ∙ ap odd (ones-pair (bit_and (value gs) (value us)) r (omega arith)) ∙ odd-add r _
    ∙ ap₂ (λ (x y : Bool). x +₂ y) (min-bits g u) (ones-dot gs us)

-- so mod 2 too
pub parity-dot : (G s : List Bool) → parity_of (value G) (value s) ≡ one-if (dot G s)
unfolding parity_of
parity-dot G s =
    odd-only _ _ (mod-lt _ (zero-lt-suc 1)) (omega (arith, one-if-le (dot G s)))
    (odd-mod-two (ones (bit_and (value G) (value s))) ∙ ones-dot G s ∙ sym (odd-one-if (dot G s)))

-- a number of bits is the value of the bits
number-value : (n : ℕ) (f : ℕ → ℕ) → ((i : ℕ) → f i < 2) → from_bits n f ≡ value (list_of n (λ i. odd (f i)))
unfolding from_bits value list_of
number-value zero f h = refl
number-value (suc n) f h = ap₂ (λ (x y : ℕ). x + 2 * y) (sym (one-if-odd (f 0) (h 0))) (number-value n (λ i. f (suc i)) (λ i. h (suc i)))

-- the taps of a generator are its digits
pub taps-value : (m g : ℕ) → taps_of m g ≡ value (digit_bits m g)
unfolding taps_of
taps-value m g = number-value (suc m) (digit m g) (digit-bound m g)
