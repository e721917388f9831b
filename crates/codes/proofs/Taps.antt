-- Laws of the program's taps and windows: their parities are the paper's sums.
--   ones-pair                            the ones of a number, from its last bit and its half
--   parity-taps                          a parity is the sum mod 2 of tap i times bit i of the window
--   parity-digits                        of digit i times bit i
--   low_bit                              the last bits of a number keep its bit i
--   window-bit                           bit i of a window is what the sequence was i stages ago
--   window-less                          a window of n bits is below 2 ^ n
--   parity-window                        a parity with a window is the sum mod 2 of digit i times what the sequence was i stages ago
--   first-bound, second-bound            the bits of a stage's two cells are 0 or 1
--   tapped-data, tapped-bound            the data bit by taps and windows is the paper's, and is 0 or 1
--   first_next, second-next, data-next   a turn of reading a byte
--   read-bytes                           bytes of such data bits are what the strip reads as
use mathlib.Core.Path.{◌≡◌, sym, ◌∙◌, ap, ap₂}
use mathlib.Core.List.{List}
use Prim.Native.Nat.{ℕ, zero, suc, ◌<◌, ◌≤◌, ◌+◌, ◌*◌, ◌-◌, ◌/◌, ◌%◌, ◌^◌, min}
use native.Mathlib.Omega.{arith}
use native.Mathlib.Nat.{mod-lt, zero-lt-suc, zero-div}
use lib.Bits.{bit_and, and_step, and_zero_l}
use lib.Count.{ones, ones_step}
use lib.Pow.{pow_pos, field, mod-mod-pow}
use lib.ListN.{length, get_or}
use Rattle.cells.specs.Places.{sum_of, from_bits}
use Rattle.cells.specs.Bytes.{bytes_of}
use Rattle.cells.specs.Levels.{level}
use Rattle.cells.proofs.Places.{list_of-same, list_of-get_or, sum_of-same, sum_of-add, number_same, number-less, half-power}
use Rattle.cells.proofs.Bytes.{number_bit}
use Rattle.codes.specs.Generators.{Generators, g2, digit}
use Rattle.codes.specs.Layouts.{one_bit}
use Rattle.codes.specs.Reading.{ago, sum_bit, data_bit, read_strip}
use Rattle.codes.specs.Taps.{taps_of, parity_of, window_of, first_bit, second_bit, tapped_bit}
use Rattle.codes.proofs.Generators.{digit-bound}
use Rattle.codes.proofs.Layouts.{one_bit-data}
use Rattle.codes.proofs.Reading.{ago-now, ago-before, ago-suc}

-- TAPS. The lesser of two bits is their product
min-product : (a b : ℕ) → a < 2 → b < 2 → min a b ≡ a * b
min-product zero b h k = omega arith
min-product (suc zero) b h k = omega arith
min-product (suc (suc a)) b h k = absurd (let z : ⊥ = omega arith in z)

-- the ones of a number are its last bit and those of its half
pub ones-pair : (x r : ℕ) → r < 2 → ones (x * 2 + r) ≡ r + ones x
ones-pair x r h = ones_step (x * 2 + r) ∙ ap₂ (λ (a b : ℕ). a + ones b) (omega arith) (omega arith)

-- taps meet as many ones of a window as the sum of tap i times bit i says
ones-taps : (n taps w : ℕ) → taps < 2 ^ n → ones (bit_and taps w) ≡ sum_of n (λ i. taps / 2 ^ i % 2 * (w / 2 ^ i % 2))
unfolding sum_of ones
ones-taps zero taps w h = let e : taps ≡ 0 = omega arith in rw e (ap ones (and_zero_l w))
ones-taps (suc n) taps w h =
    let r : ℕ = min (taps % 2) (w % 2) in
    let m : r ≡ taps % 2 * (w % 2) = min-product (taps % 2) (w % 2) (mod-lt taps (zero-lt-suc 1)) (mod-lt w (zero-lt-suc 1)) in
    let e : taps / 1 ≡ taps = omega arith in
    let f : w / 1 ≡ w = omega arith in
    ap ones (and_step taps w) ∙ ones-pair (bit_and (taps / 2) (w / 2)) r (omega arith)
    ∙ ap₂ (λ (x y : ℕ). x + y) (m ∙ ap₂ (λ (x y : ℕ). x % 2 * (y % 2)) (sym e) (sym f))
    (ones-taps n (taps / 2) (w / 2) (omega arith) ∙ sum_of-same n _ _ (λ i l. rw (half-power taps i, half-power w i)))

-- a parity is the sum mod 2 of tap i times bit i of the window
pub parity-taps : (n taps w : ℕ) → taps < 2 ^ n → parity_of taps w ≡ sum_of n (λ i. taps / 2 ^ i % 2 * (w / 2 ^ i % 2)) % 2
unfolding parity_of
parity-taps n taps w h = ap (λ (x : ℕ). x % 2) (ones-taps n taps w h)

-- of digit i times bit i, where the taps are those of a generator
pub parity-digits : (m g w : ℕ) → parity_of (taps_of m g) w ≡ sum_of (suc m) (λ i. digit m g i * (w / 2 ^ i % 2)) % 2
unfolding taps_of
parity-digits m g w =
    parity-taps (suc m) (taps_of m g) w (number-less (suc m) (digit m g) (digit-bound m g))
    ∙ ap (λ (x : ℕ). x % 2) (sum_of-same (suc m) _ _ (λ i l.
    ap (λ (x : ℕ). x * (w / 2 ^ i % 2)) (number_bit (suc m) (digit m g) (λ i l. digit-bound m g i) i l)))

-- WINDOWS. The last n bits of a number keep its bit i
pub low_bit : (n i y : ℕ) → i < n → y % 2 ^ n / 2 ^ i % 2 ≡ y / 2 ^ i % 2
low_bit n i y h =
    let e : n ≡ n - suc i + 1 + i = omega arith in
    ap (λ (k : ℕ). y % 2 ^ k / 2 ^ i % 2) e ∙ ap (λ (z : ℕ). z % 2) (field y (n - suc i + 1) i) ∙ mod-mod-pow (y / 2 ^ i) (n - suc i) 1

-- bit i of a window is what the sequence was i stages ago
pub window-bit : (n : ℕ) (x : ℕ → ℕ) → ((t : ℕ) → x t < 2) → (t i : ℕ) → i < n → window_of n x (suc t) / 2 ^ i % 2 ≡ ago x t i
unfolding window_of
window-bit n x b t zero h =
    let k : x t < 2 = b t in
    let e : (2 * window_of n x t + x t) / 1 % 2 ≡ x t = omega arith in
    low_bit n 0 (2 * window_of n x t + x t) h ∙ e ∙ sym (ago-now x t)
window-bit n x b zero (suc i) h =
    let k : x 0 < 2 = b 0 in
    let e : (2 * 0 + x 0) / 2 ≡ 0 = omega arith in
    rw (low_bit n (suc i) (2 * 0 + x 0) h, half-power (2 * 0 + x 0) i, e, zero-div (2 ^ i), ago-before x i)
window-bit n x b (suc t) (suc i) h =
    let k : x (suc t) < 2 = b (suc t) in
    let w : ℕ = window_of n x (suc t) in
    let e : (2 * w + x (suc t)) / 2 ≡ w = omega arith in
    rw (low_bit n (suc i) (2 * w + x (suc t)) h, half-power (2 * w + x (suc t)) i, e, ago-suc x t i) (window-bit n x b t i (omega arith))

-- a window of n bits is below 2 ^ n
pub window-less : (n : ℕ) (x : ℕ → ℕ) (t : ℕ) → window_of n x t < 2 ^ n
unfolding window_of
window-less n x zero = pow_pos n
window-less n x (suc t) = mod-lt _ (pow_pos n)

-- a parity with a window is the sum mod 2 of digit i times what the sequence was i stages ago
pub parity-window : (n : ℕ) (x : ℕ → ℕ) → ((t : ℕ) → x t < 2) → (m g t : ℕ) → m < n
    → parity_of (taps_of m g) (window_of n x (suc t)) ≡ sum_of (suc m) (λ i. digit m g i * ago x t i) % 2
parity-window n x b m g t h =
    parity-digits m g (window_of n x (suc t))
    ∙ ap (λ (y : ℕ). y % 2) (sum_of-same (suc m) _ _ (λ i l. ap (λ (y : ℕ). digit m g i * y) (window-bit n x b t i (omega arith))))

-- the bit of a first cell is 0 or 1
pub first-bound : (v : ℕ → ℕ) (t : ℕ) → first_bit v t < 2
unfolding first_bit
first-bound v t = mod-lt _ (zero-lt-suc 1)

-- so is that of a second
second-bound : (v : ℕ → ℕ) (t : ℕ) → second_bit v t < 2
unfolding second_bit
second-bound v t = mod-lt _ (zero-lt-suc 1)

-- the data bit by taps and windows is the paper's
tapped-data : (G : Generators) (v : ℕ → ℕ) (t : ℕ) → G.memory ≤ 6
    → tapped_bit (taps_of G.memory G.g1) (taps_of G.memory (g2 G)) v t ≡ data_bit one_bit G v t
unfolding tapped_bit sum_bit
tapped-data G v t h =
    let m : ℕ = G.memory in
    omega (
      arith,
      one_bit-data G v t,
      parity-window 7 (first_bit v) (first-bound v) m (g2 G) t (omega arith),
      parity-window 7 (second_bit v) (second-bound v) m G.g1 t (omega arith),
      sum_of-add (suc m) (λ i. digit m (g2 G) i * ago (first_bit v) t i) (λ i. digit m G.g1 i * ago (second_bit v) t i),
    )

-- a data bit is 0 or 1
pub tapped-bound : (g1 g2 : ℕ) (v : ℕ → ℕ) (t : ℕ) → tapped_bit g1 g2 v t < 2
unfolding tapped_bit
tapped-bound g1 g2 v t = mod-lt _ (zero-lt-suc 1)

-- READING A BYTE. At bit i of byte q a bit comes into a window
window-next : (x : ℕ → ℕ) (q i w b : ℕ) → w ≡ window_of 7 x (8 * q + i) → b ≡ x (8 * q + i)
    → (2 * w + b) % 128 ≡ window_of 7 x (8 * q + (i + 1))
unfolding window_of
window-next x q i w b e f = let s : 8 * q + (i + 1) ≡ suc (8 * q + i) = omega arith in rw (s, e, f)

module _ (v : ℕ → ℕ) (q i : ℕ) where
  -- the first cell's bit into the first window
  pub first_next : (w l : ℕ) → w ≡ window_of 7 (first_bit v) (8 * q + i) → l ≡ v (16 * q + 2 * i)
      → (2 * w + l % 2) % 128 ≡ window_of 7 (first_bit v) (8 * q + (i + 1))
  unfolding first_bit
  first_next w l e f = window-next (first_bit v) q i w (l % 2) e (rw f (ap (λ (c : ℕ). v c % 2) (omega arith)))

  -- the second cell's into the second
  pub second-next : (w l : ℕ) → w ≡ window_of 7 (second_bit v) (8 * q + i) → l ≡ v (16 * q + 2 * i + 1)
      → (2 * w + l % 2) % 128 ≡ window_of 7 (second_bit v) (8 * q + (i + 1))
  unfolding second_bit
  second-next w l e f = window-next (second_bit v) q i w (l % 2) e (rw f (ap (λ (c : ℕ). v c % 2) (omega arith)))

  -- and their parities make the data bit
  pub data-next : (g1 g2 a b p r : ℕ) → a ≡ window_of 7 (first_bit v) (8 * q + (i + 1)) → b ≡ window_of 7 (second_bit v) (8 * q + (i + 1))
      → p ≡ parity_of g2 a → r ≡ parity_of g1 b → (p + r) % 2 ≡ tapped_bit g1 g2 v (8 * q + i)
  unfolding tapped_bit
  data-next g1 g2 a b p r e f g h = let s : suc (8 * q + i) ≡ 8 * q + (i + 1) = omega arith in rw (g, h, e, f, s)

-- READING A STRIP. Bytes of data bits by the taps of a code are what the strip reads as
pub read-bytes : (G : Generators) (n : ℕ) (strip bytes : List ℕ) → G.memory ≤ 6 → length bytes ≡ n
    → ((k : ℕ) → k < n → get_or bytes k 0
    ≡ from_bits 8 (λ i. tapped_bit (taps_of G.memory G.g1) (taps_of G.memory (g2 G)) (level strip) (8 * k + i)))
    → bytes ≡ read_strip one_bit G n strip
unfolding read_strip bytes_of
read-bytes G n strip bytes m e b =
    sym (list_of-get_or n bytes 0 e)
    ∙ list_of-same n _ _ (λ k h. b k h ∙ number_same 8 _ _ (λ i l. tapped-data G (level strip) (8 * k + i) m))
