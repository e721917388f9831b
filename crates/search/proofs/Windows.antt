-- The bits that a window of the last digits gives, on numbers.
--   first_of, second_of       the bit of a window by the first generator, and by the second
--   parity-flip               the two newest digits give two bits
--   word_first, word-second   the bits of a window's word
--   word-flip                 the words of the two newest digits have no bit in common
use mathlib.Core.Path.{◌≡◌, refl, sym, ◌∙◌, ap, ap₂}
use mathlib.Core.Bool.{Bool, true, false, not}
use Prim.Native.Nat.{ℕ, suc, ◌<◌, ◌+◌, ◌*◌, ◌-◌, ◌/◌, ◌%◌, ◌^◌}
use native.Mathlib.Omega.{arith}
use native.Mathlib.Nat.{mod-lt, zero-lt-suc}
use Rattle.cells.specs.Places.{sum_of}
use Rattle.cells.proofs.Places.{sum_of-same, half-power}
use Rattle.codes.specs.Generators.{Generators, g2, digit}
use Rattle.codes.specs.Taps.{taps_of, parity_of, word_of}
use Rattle.codes.specs.Sequences.{odd}
use Rattle.codes.specs.Numbers.{one-if}
use Rattle.codes.proofs.Sequences.{odd-mod-two}
use Rattle.codes.proofs.Numbers.{one-if-le, one-if-odd, odd-one-if}
use Rattle.codes.proofs.Taps.{parity-digits}

-- BITS. A number mod 2 is the number of its bit
pub mod-odd : (n : ℕ) → n % 2 ≡ one-if (odd n)
mod-odd n = sym (one-if-odd (n % 2) (mod-lt n (zero-lt-suc 1))) ∙ ap one-if (odd-mod-two n)

-- WINDOWS. The bit of a window of the last digits, by the first generator
abbrev pub first_of : Generators → ℕ → Bool
first_of G w = odd (parity_of (taps_of G.memory G.g1) w)

-- and by the second
abbrev pub second_of : Generators → ℕ → Bool
second_of G w = odd (parity_of (taps_of G.memory (g2 G)) w)

-- a parity is the number of its bit
pub parity-number : (taps w : ℕ) → parity_of taps w ≡ one-if (odd (parity_of taps w))
unfolding parity_of
parity-number taps w = sym (one-if-odd _ (mod-lt _ (zero-lt-suc 1)))

-- the parity of a window with the newest digit b: the generator's digit 0 times b, and the older digits' sum
parity-newest : (m g s b : ℕ) → b < 2
    → parity_of (taps_of m g) (2 * s + b) ≡ (digit m g 0 * b + sum_of m (λ i. digit m g (suc i) * (s / 2 ^ i % 2))) % 2
unfolding sum_of
parity-newest m g s b h =
    let p : (2 * s + b) / 1 % 2 ≡ b = omega arith in
    let q : (2 * s + b) / 2 ≡ s = omega arith in
    parity-digits m g (2 * s + b)
    ∙ ap₂ (λ (x y : ℕ). (digit m g 0 * x + y) % 2) p
    (sum_of-same m _ _ (λ i l. ap (λ (y : ℕ). digit m g (suc i) * (y % 2)) (half-power (2 * s + b) i ∙ ap (λ (y : ℕ). y / 2 ^ i) q)))

-- so where digit 0 is 1, the two newest digits give two bits
pub parity-flip : (m g s : ℕ) → digit m g 0 ≡ 1 → odd (parity_of (taps_of m g) (2 * s + 1)) ≡ not (odd (parity_of (taps_of m g) (2 * s + 0)))
unfolding odd
parity-flip m g s e = rw (parity-newest m g s 0 (omega arith), parity-newest m g s 1 (omega arith), e)
    (flip (sum_of m (λ i. digit m g (suc i) * (s / 2 ^ i % 2))))
  where
    flip : (r : ℕ) → odd ((1 * 1 + r) % 2) ≡ not (odd ((1 * 0 + r) % 2))
    flip r =
        let a : 1 * 1 + r ≡ suc r = omega arith in
        let b : 1 * 0 + r ≡ r = omega arith in
        rw (odd-mod-two (1 * 1 + r), odd-mod-two (1 * 0 + r), a, b)

-- the word of a window: its first bit
pub word_first : (G : Generators) (w : ℕ) → word_of G w % 2 ≡ one-if (first_of G w)
unfolding word_of
word_first G w = let p = parity-number (taps_of G.memory G.g1) w in omega (arith, one-if-le (first_of G w))

-- and its second
pub word-second : (G : Generators) (w : ℕ) → word_of G w / 2 ≡ one-if (second_of G w)
unfolding word_of
word-second G w =
    let p = parity-number (taps_of G.memory G.g1) w in
    let q = parity-number (taps_of G.memory (g2 G)) w in
    omega (arith, one-if-le (first_of G w))

-- a word is its two bits
word-bits : (G : Generators) (w : ℕ) → word_of G w ≡ one-if (first_of G w) + 2 * one-if (second_of G w)
unfolding word_of
word-bits G w =
    let p = parity-number (taps_of G.memory G.g1) w in
    let q = parity-number (taps_of G.memory (g2 G)) w in
    omega arith

-- as bits
pub word-odd : (G : Generators) (w : ℕ) → odd (word_of G w) ≡ first_of G w
word-odd G w = sym (odd-mod-two (word_of G w)) ∙ ap odd (word_first G w) ∙ odd-one-if (first_of G w)

pub word-half : (G : Generators) (w : ℕ) → odd (word_of G w / 2) ≡ second_of G w
word-half G w = ap odd (word-second G w) ∙ odd-one-if (second_of G w)

-- where both generators begin with 1, the word of the newest digit 1 has the other bits than that of the digit 0
pub word-flip : (G : Generators) (s : ℕ) → digit G.memory G.g1 0 ≡ 1 → digit G.memory (g2 G) 0 ≡ 1
    → 3 - word_of G (2 * s) ≡ word_of G (2 * s + 1)
unfolding one-if
word-flip G s e f =
    let z : 2 * s ≡ 2 * s + 0 = omega arith in
    ap (λ (w : ℕ). 3 - word_of G w) z
    ∙ rw (word-bits G (2 * s + 0), word-bits G (2 * s + 1), parity-flip G.memory G.g1 s e, parity-flip G.memory (g2 G) s f)
    (go (first_of G (2 * s + 0)) (second_of G (2 * s + 0)))
  where
    go : (a b : Bool) → 3 - (one-if a + 2 * one-if b) ≡ one-if (not a) + 2 * one-if (not b)
    go true true = refl
    go true false = refl
    go false true = refl
    go false false = refl
