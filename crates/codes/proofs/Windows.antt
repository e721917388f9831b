-- Laws of eight stages at a time: the windows of a sequence at the ends of its bytes, what a generator makes of them, and the labels.
--   window-mod          the last bits of a window are a shorter window
--   window-suc          the next bit comes into a window that has room for it
--   window-parts        a window in two parts
--   window_same         a window depends on its bits alone
--   window-join         two windows of eight bits that follow each other are one of sixteen
--   window-byte         bit p of the window of byte q is what the sequence was p stages before the byte's last
--   window-of-word      the program's window, of bits that are those of stages
--   window-parity       a parity with the window of two bytes is that with the window of its stage
--   windows-give        where a generator makes one sequence of another, it makes a byte's window of the windows of two bytes
--   windows-give-back   and the eight bits of two bytes' windows that lie m stages back
--   xor-windows         two windows added up without carries are the window of the sums
--   label-bound         a label is 0 or 1
--   label-window        G1 makes the data of the labels
use mathlib.Core.Path.{◌≡◌, refl, sym, ◌∙◌, ap, ap₂, fun_ext}
use mathlib.Core.Bool.{Bool}
use mathlib.Core.List.{List}
use Prim.Native.Nat.{ℕ, zero, suc, ◌<◌, ◌≤◌, ◌+◌, ◌*◌, ◌-◌, ◌/◌, ◌%◌, ◌^◌, suc-le-suc}
use native.Mathlib.Omega.{arith}
use native.Mathlib.Nat.{mod-lt, mod-eq_of_lt, mod-add-mod, zero-lt-suc, pow-suc, mul_assoc}
use lib.Arith.{mod-mul}
use lib.Pow.{pow_pos, high, mod-mod-pow}
use lib.Bits.{bit_xor, xor_mod, xor_block, xor_lt, xor_add_and}
use Rattle.cells.specs.Bytes.{bit_of}
use Rattle.cells.proofs.Bytes.{bit-bound}
use Rattle.codes.specs.Generators.{Generators, digit}
use Rattle.codes.specs.Taps.{taps_of, parity_of, window_of}
use Rattle.codes.specs.Sequences.{Bits, conv, odd}
use Rattle.codes.specs.Encoders.{encoder_of, Proper}
use Rattle.codes.specs.Blocks.{Gives, label_at}
use Rattle.codes.proofs.Sequences.{odd-mod-two, odd-only}
use Rattle.codes.proofs.Registers.{conv-quotient}
use Rattle.codes.proofs.Reading.{ago-at, conv-sum}
use Rattle.codes.proofs.Encoders.{first-digits, encoder-in-memory}
use Rattle.codes.proofs.Numbers.{one-if-le, odd-one-if}
use Rattle.codes.proofs.Taps.{window-bit, window-less, parity-window}

-- WINDOWS. Twice a number, mod k, by the number mod k
twice-mod : (k w b : ℕ) → (2 * w + b) % k ≡ (2 * (w % k) + b) % k
twice-mod k w b =
    let e : 2 * w + b ≡ w + (w + b) = omega arith in
    let f : w % k + (w + b) ≡ w + (w % k + b) = omega arith in
    let g : w % k + (w % k + b) ≡ 2 * (w % k) + b = omega arith in
    ap (λ (y : ℕ). y % k) e ∙ sym (mod-add-mod w k (w + b)) ∙ ap (λ (y : ℕ). y % k) f ∙ sym (mod-add-mod w k (w % k + b))
    ∙ ap (λ (y : ℕ). y % k) g

-- the last m bits of a window of n are a window of m
pub window-mod : (m n : ℕ) (x : ℕ → ℕ) (t : ℕ) → m ≤ n → window_of n x t % 2 ^ m ≡ window_of m x t
unfolding window_of
window-mod m n x zero h = mod-eq_of_lt (pow_pos m)
window-mod m n x (suc t) h =
    let e : n ≡ n - m + m = omega arith in
    let w : ℕ = window_of n x t in
    ap (λ (k : ℕ). (2 * w + x t) % 2 ^ k % 2 ^ m) e ∙ mod-mod-pow (2 * w + x t) (n - m) m ∙ twice-mod (2 ^ m) w (x t)
    ∙ ap (λ (v : ℕ). (2 * v + x t) % 2 ^ m) (window-mod m n x t h)

module _ (x : ℕ → ℕ) (bits : (t : ℕ) → x t < 2) where
  -- the next bit comes into a window that has room for it
  pub window-suc : (n t : ℕ) → window_of (suc n) x (suc t) ≡ 2 * window_of n x t + x t
  unfolding window_of
  window-suc n t =
      let b : x t < 2 = bits t in
      let w : ℕ = window_of (suc n) x t in
      let e : (2 * w + x t) / 2 ≡ w = omega arith in
      let f : (2 * w + x t) % 2 ≡ x t = omega arith in
      ap (λ (k : ℕ). (2 * w + x t) % k) (pow-suc 2 n) ∙ mod-mul (2 * w + x t) (pow_pos n) (zero-lt-suc 1)
      ∙ ap₂ (λ (y z : ℕ). y % 2 ^ n * 2 + z) e f ∙ ap (λ (y : ℕ). y * 2 + x t) (window-mod n (suc n) x t (omega arith)) ∙ omega arith

  -- a window in two parts, the newer of k bits
  pub window-parts : (n k t : ℕ) → window_of (n + k) x (t + k) ≡ window_of n x t * 2 ^ k + window_of k x (t + k)
  window-parts n zero t =
      let e : n + 0 ≡ n = omega arith in
      let f : t + 0 ≡ t = omega arith in
      let h : window_of 0 x t < 1 = window-less 0 x t in
      ap₂ (λ (i j : ℕ). window_of i x j) e f ∙ rw f (omega arith)
  window-parts n (suc k) t =
      let e : n + suc k ≡ suc (n + k) = omega arith in
      let f : t + suc k ≡ suc (t + k) = omega arith in
      let a : ℕ = window_of n x t in
      let d : a * 2 ^ suc k ≡ a * 2 ^ k * 2 = ap (λ (y : ℕ). a * y) (pow-suc 2 k) ∙ sym (mul_assoc a (2 ^ k) 2) in
      ap₂ (λ (i j : ℕ). window_of i x j) e f
      ∙ rw f (omega (arith, window-suc (n + k) (t + k), window-parts n k t, d, window-suc k (t + k)))

  -- and without it
  window-older : (n k t : ℕ) → window_of (n + k) x (t + k) / 2 ^ k ≡ window_of n x t
  window-older n k t = ap (λ (y : ℕ). y / 2 ^ k) (window-parts n k t) ∙ high (window_of n x t) k (window-less k x (t + k))

  -- two windows of eight bits that follow each other are one of sixteen
  pub window-join : (q : ℕ) → window_of 16 x (8 * (q + 1)) ≡ window_of 8 x (8 * q) * 256 + window_of 8 x (8 * (q + 1))
  window-join q = let e : 8 * (q + 1) ≡ 8 * q + 8 = omega arith in rw e (window-parts 8 8 (8 * q))

  -- bit p of the window of byte q is what the sequence was p stages before the byte's last
  pub window-byte : (q p : ℕ) → p < 8 → window_of 8 x (8 * (q + 1)) / 2 ^ p % 2 ≡ x (8 * q + (7 - p))
  window-byte q p h =
      let e : 8 * (q + 1) ≡ suc (8 * q + 7) = omega arith in
      let f : 8 * q + 7 - p ≡ 8 * q + (7 - p) = omega arith in
      rw e (window-bit 8 x bits (8 * q + 7) p h ∙ ago-at x (8 * q + 7) p (omega arith) ∙ ap x f)

  -- a parity with the window of two bytes is that with the window of its stage
  pub window-parity : (m g q p : ℕ) → p + m ≤ 15 → p ≤ 8 * q + 7
      → parity_of (taps_of m g) ((window_of 8 x (8 * q) * 256 + window_of 8 x (8 * (q + 1))) / 2 ^ p)
      ≡ parity_of (taps_of m g) (window_of (suc m) x (suc (8 * q + 7 - p)))
  window-parity m g q p h k =
      let t : ℕ = 8 * q + 7 - p in
      let e : 16 ≡ 16 - p + p = omega arith in
      let f : 8 * (q + 1) ≡ suc t + p = omega arith in
      let w = sym (window-join q) ∙ ap₂ (λ (i j : ℕ). window_of i x j) e f in
      ap (parity_of (taps_of m g)) (ap (λ (y : ℕ). y / 2 ^ p) w ∙ window-older (16 - p) p (suc t))
      ∙ parity-window (16 - p) x bits m g t (omega arith) ∙ sym (parity-window (suc m) x bits m g t (omega arith))

-- a window depends on its bits alone
pub window_same : (x y : ℕ → ℕ) → ((t : ℕ) → x t < 2) → ((t : ℕ) → y t < 2)
    → (k t s : ℕ) → ((i : ℕ) → i < k → x (t + i) ≡ y (s + i)) → window_of k x (t + k) ≡ window_of k y (s + k)
window_same x y b c zero t s e = omega (arith, window-less 0 x (t + 0), window-less 0 y (s + 0))
window_same x y b c (suc k) t s e =
    let f : t + suc k ≡ suc (t + k) = omega arith in
    let g : s + suc k ≡ suc (s + k) = omega arith in
    rw (f, g)
    (window-suc x b k (t + k)
    ∙ ap₂ (λ (w v : ℕ). 2 * w + v) (window_same x y b c k t s (λ i h. e i (omega arith))) (e k (omega arith))
    ∙ sym (window-suc y c k (s + k)))

-- eight bits of a word, `step` places apart, that are those of the stages from 8·q on: the program's window
pub window-of-word : (word step : ℕ) (x : ℕ → ℕ) → ((t : ℕ) → x t < 2) → (q : ℕ)
    → ((i : ℕ) → i < 8 → word / 2 ^ (step * i) % 2 ≡ x (8 * q + i))
    → window_of 8 (λ i. word / 2 ^ (step * i) % 2) 8 ≡ window_of 8 x (8 * (q + 1))
window-of-word word step x b q e =
    let f : 8 * (q + 1) ≡ 8 * q + 8 = omega arith in
    rw f (window_same _ x (λ i. mod-lt _ (zero-lt-suc 1)) b 8 0 (8 * q) (λ i h. let z : 0 + i ≡ i = omega arith in rw z (e i h)))

-- WHAT A GENERATOR MAKES of x is d
module _ (m g : ℕ) (x d : ℕ → ℕ) (xs : (t : ℕ) → x t < 2) (ds : (t : ℕ) → d t < 2) (q : ℕ) (l : m ≤ 6)
    (makes : (t : ℕ) → t < 8 * (q + 1) → parity_of (taps_of m g) (window_of (suc m) x (suc t)) ≡ d t) where
  -- of the window of two bytes of x it makes that of a byte of d
  pub windows-give : Gives (taps_of m g) (window_of 8 x (8 * q) * 256 + window_of 8 x (8 * (q + 1))) (window_of 8 d (8 * (q + 1))) 0
  windows-give = record {
    at = λ p h.
        let e : 0 + p ≡ p = omega arith in
        let f : 8 * q + 7 - p ≡ 8 * q + (7 - p) = omega arith in
        let w = window-parity x xs m g q p (omega arith) (omega arith) in
        rw e (w ∙ makes (8 * q + 7 - p) (omega arith) ∙ ap d f ∙ sym (window-byte d ds q p h));
  }

  -- and of two bytes, m stages back
  pub windows-give-back : 0 < q
      → Gives (taps_of m g) (window_of 8 x (8 * q) * 256 + window_of 8 x (8 * (q + 1)))
      (window_of 8 d (8 * q) * 256 + window_of 8 d (8 * (q + 1))) (8 - m)
  windows-give-back r = record {
    at = λ p h.
        let k : ℕ = 8 - m + p in
        let e : 8 * (q + 1) ≡ suc (8 * q + 7) = omega arith in
        let w = window-bit 16 d ds (8 * q + 7) k (omega arith) ∙ ago-at d (8 * q + 7) k (omega arith) in
        window-parity x xs m g q k (omega arith) (omega arith) ∙ makes (8 * q + 7 - k) (omega arith)
        ∙ sym (ap (λ (y : ℕ). y / 2 ^ k % 2) (sym (window-join d ds q) ∙ ap (window_of 16 d) e) ∙ w);
  }

-- LABELS. A label is 0 or 1
pub label-bound : (G : Generators) (content : List ℕ) (t : ℕ) → label_at G content t < 2
unfolding label_at
label-bound G content t = suc-le-suc (one-if-le _)

-- G1 makes the data of them
pub label-window : (G : Generators) → Proper G → (content : List ℕ) (t : ℕ)
    → parity_of (taps_of G.memory G.g1) (window_of (suc G.memory) (label_at G content) (suc t)) ≡ bit_of content t
unfolding label_at encoder_of
label-window G P content t =
    let m = G.memory in
    let x = label_at G content in
    let d : Bits = λ s. odd (bit_of content s) in
    let fits = (encoder-in-memory G).first_fits in
    parity-window (suc m) x (label-bound G content) m G.g1 t (omega arith)
    ∙ odd-only _ _ (mod-lt _ (zero-lt-suc 1)) (bit-bound content t)
    (odd-mod-two _ ∙ sym (conv-sum (suc m) (digit m G.g1) x t)
    ∙ ap₂ (λ (g : List Bool) (y : Bits). conv g y t) (sym (first-digits G P.leads)) (fun_ext λ s. odd-one-if _)
    ∙ ap (λ (y : Bits). y t) (conv-quotient m (encoder_of G).first fits d))

-- SUMS. Two windows added up without carries are the window of the sums
pub xor-windows : (n : ℕ) (x y : ℕ → ℕ) → ((t : ℕ) → x t < 2) → ((t : ℕ) → y t < 2) → (t : ℕ)
    → bit_xor (window_of n x t) (window_of n y t) ≡ window_of n (λ t. (x t + y t) % 2) t
unfolding window_of
xor-windows n x y b c zero = refl
xor-windows n x y b c (suc t) =
    let p : 2 * window_of n x t + x t ≡ window_of n x t * 2 ^ 1 + x t = omega arith in
    let q : 2 * window_of n y t + y t ≡ window_of n y t * 2 ^ 1 + y t = omega arith in
    let r : ℕ = bit_xor (window_of n x t) (window_of n y t) in
    let bits : bit_xor (x t) (y t) ≡ (x t + y t) % 2 = omega (arith, xor_add_and (x t) (y t), xor_lt 1 (x t) (y t) (b t) (c t)) in
    let s : r * 2 ^ 1 + (x t + y t) % 2 ≡ 2 * r + (x t + y t) % 2 = omega arith in
    sym (xor_mod (2 * window_of n x t + x t) (2 * window_of n y t + y t) n) ∙ ap (λ (z : ℕ). z % 2 ^ n)
    (ap₂ bit_xor p q ∙ xor_block 1 (window_of n x t) (window_of n y t) (x t) (y t) (b t) (c t)
    ∙ ap (λ (z : ℕ). r * 2 ^ 1 + z) bits ∙ s ∙ ap (λ (z : ℕ). 2 * z + (x t + y t) % 2) (xor-windows n x y b c t))
