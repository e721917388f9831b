-- Bits of bytes, the bytes of bits, and a bit that is 0, set.
--   one-octet         a byte alone
--   bit-bound         a bit is 0 or 1
--   number_bit        the bits of the number of some bits are these
--   cases8            a statement of each number below 8 holds of a number below 8
--   length-bytes_of   bytes_of n f has n numbers, which are bytes (octets-bytes_of)
--   bytes_of-bit      the bits of the bytes of some bits are these
--   bytes_of-same     bytes are known by their bits
--   byte-bits         a byte is the number of its bits, and bytes are the bytes of theirs (bytes_bits)
--   word-bit          the bits of two bytes that follow each other, as one number
--   part-bit          the bits of a part of the bytes
--   bit-same          a bit that is set is 1
--   bit-other         every other bit is as it was
--   byte_fits         a byte in which a bit that is 0 is set is still a byte
--   length-with_bit   as many bytes as before, which are still bytes (octets-with_bit)
use mathlib.Core.Path.{◌≡◌, sym, ◌∙◌, ap, ap₂, subst}
use mathlib.Core.List.{List, [], ◌∷◌}
use mathlib.Core.Logic.{⊎_elim}
use Prim.Native.Nat.{ℕ, zero, suc, ◌<◌, ◌+◌, ◌*◌, ◌-◌, ◌/◌, ◌%◌, ◌^◌}
use native.Mathlib.Omega.{arith, ne_cases}
use native.Mathlib.Nat.{not-suc-le-zero, add-div_right, add-mul-div_right, mod-lt, zero-lt-suc}
use lib.Pow.{pow-add, pow_pos, shr-shr}
use lib.ListN.{length, get_or, take, drop, length-set}
use lib.Seq.{get_or-take, get_or-drop, get_or-set_same, get_or-set_other}
use Rattle.cells.specs.Places.{from_bits}
use Rattle.cells.specs.Bytes.{bit_of, bytes_of, Octets, Unset, with_bit}
use Rattle.cells.proofs.Places.{length-list_of, list_of-at, list_of-same, list_of-get_or, number_same, number-less, half-power, same?}

-- a byte alone
pub one-octet : (byte : ℕ) → byte < 256 → Octets (byte ∷ [])
one-octet byte p = record { below = go }
  where
    go : (q : ℕ) → q < 1 → get_or (byte ∷ []) q 0 < 256
    go zero h = p
    go (suc q) h = absurd (let z : ⊥ = omega arith in z)

-- a bit is 0 or 1
pub bit-bound : (bytes : List ℕ) (k : ℕ) → bit_of bytes k < 2
unfolding bit_of
bit-bound bytes k = mod-lt _ (zero-lt-suc 1)

-- NUMBERS. The bits of the number of some bits are these
pub number_bit : (n : ℕ) (f : ℕ → ℕ) → ((i : ℕ) → i < n → f i < 2) → (j : ℕ) → j < n → (from_bits n f / 2 ^ j) % 2 ≡ f j
unfolding from_bits
number_bit zero f b j h = absurd (not-suc-le-zero h)
number_bit (suc n) f b zero h =
    let k : f 0 < 2 = b 0 (omega arith) in
    let e : (f 0 + 2 * from_bits n (λ i. f (suc i))) / 1 ≡ f 0 + 2 * from_bits n (λ i. f (suc i)) = omega arith in
    omega arith
number_bit (suc n) f b (suc j) h =
    let k : f 0 < 2 = b 0 (omega arith) in
    let e : (f 0 + 2 * from_bits n (λ i. f (suc i))) / 2 ≡ from_bits n (λ i. f (suc i)) = omega arith in
    ap (λ (x : ℕ). x % 2) (half-power _ j ∙ ap (λ (x : ℕ). x / 2 ^ j) e)
    ∙ number_bit n (λ i. f (suc i)) (λ i h. b (suc i) (omega arith)) j (omega arith)

-- a number below 2 ^ n is the number of its n bits
pub number-bits : (n x : ℕ) → x < 2 ^ n → from_bits n (λ j. (x / 2 ^ j) % 2) ≡ x
unfolding from_bits
number-bits zero x h = omega arith
number-bits (suc n) x h =
    let p : 2 ^ suc n ≡ 2 * 2 ^ n = omega arith in
    let q : x / 2 < 2 ^ n = omega arith in
    let r : x / 1 ≡ x = omega arith in
    let s = number_same n _ _ (λ j k. ap (λ (y : ℕ). y % 2) (half-power x j)) in
    let e : from_bits n (λ j. (x / 2 ^ suc j) % 2) ≡ x / 2 = s ∙ number-bits n (x / 2) q in
    omega arith

-- a statement of each number below 8 holds of a number below 8
pub cases8 : (P : ℕ → Type 0) → P 0 → P 1 → P 2 → P 3 → P 4 → P 5 → P 6 → P 7 → (j : ℕ) → j < 8 → P j
cases8 P a b c d e f g h zero l = a
cases8 P a b c d e f g h (suc zero) l = b
cases8 P a b c d e f g h (suc (suc zero)) l = c
cases8 P a b c d e f g h (suc (suc (suc zero))) l = d
cases8 P a b c d e f g h (suc (suc (suc (suc zero)))) l = e
cases8 P a b c d e f g h (suc (suc (suc (suc (suc zero))))) l = f
cases8 P a b c d e f g h (suc (suc (suc (suc (suc (suc zero)))))) l = g
cases8 P a b c d e f g h (suc (suc (suc (suc (suc (suc (suc zero))))))) l = h
cases8 P a b c d e f g h (suc (suc (suc (suc (suc (suc (suc (suc j)))))))) l = absurd (let z : ⊥ = omega arith in z)

-- BYTES. n of them
pub length-bytes_of : (n : ℕ) (f : ℕ → ℕ) → length (bytes_of n f) ≡ n
unfolding bytes_of
length-bytes_of n f = length-list_of n _

-- the bits of the bytes of some bits are these
pub bytes_of-bit : (n : ℕ) (f : ℕ → ℕ) → ((i : ℕ) → f i < 2) → (k : ℕ) → k < 8 * n → bit_of (bytes_of n f) k ≡ f k
unfolding bit_of bytes_of
bytes_of-bit n f b k h =
    let q : k / 8 < n = omega arith in
    let e : 8 * (k / 8) + k % 8 ≡ k = omega arith in
    ap (λ (x : ℕ). (x / 2 ^ (k % 8)) % 2) (list_of-at n _ (k / 8) 0 q)
    ∙ number_bit 8 _ (λ i l. b (8 * (k / 8) + i)) (k % 8) (omega arith)
    ∙ ap f e

-- the bytes of some bits are bytes
pub octets-bytes_of : (n : ℕ) (f : ℕ → ℕ) → ((i : ℕ) → f i < 2) → Octets (bytes_of n f)
unfolding bytes_of
octets-bytes_of n f b = record {
  below = λ q h.
      let l : q < n = omega (arith, length-bytes_of n f) in
      rw (list_of-at {A = ℕ} n _ q 0 l) (number-less 8 _ (λ i. b (8 * q + i)));
}

-- bytes by their bits
pub bytes_of-same : (n : ℕ) (f g : ℕ → ℕ) → ((k : ℕ) → k < 8 * n → f k ≡ g k) → bytes_of n f ≡ bytes_of n g
unfolding bytes_of
bytes_of-same n f g e = list_of-same n _ _ (λ q h. number_same 8 _ _ (λ i l. e (8 * q + i) (omega arith)))

-- a byte is the number of its bits
pub byte-bits : (bytes : List ℕ) (q : ℕ) → get_or bytes q 0 < 256 → from_bits 8 (λ i. bit_of bytes (8 * q + i)) ≡ get_or bytes q 0
unfolding bit_of
byte-bits bytes q b =
    number_same 8 _ (λ i. (get_or bytes q 0 / 2 ^ i) % 2) (λ i l.
    let x : (8 * q + i) / 8 ≡ q = omega arith in
    let y : (8 * q + i) % 8 ≡ i = omega arith in
    rw (x, y))
    ∙ number-bits 8 (get_or bytes q 0) b

-- n bytes are the bytes of their bits
pub bytes_bits : (n : ℕ) (bytes : List ℕ) → length bytes ≡ n → ((q : ℕ) → q < n → get_or bytes q 0 < 256) → bytes_of n (bit_of bytes) ≡ bytes
unfolding bytes_of
bytes_bits n bytes e b = list_of-same n _ (λ q. get_or bytes q 0) (λ q h. byte-bits bytes q (b q h)) ∙ list_of-get_or n bytes 0 e

-- sixteen bits are two bytes
two_bytes : (f : ℕ → ℕ) → from_bits 16 f ≡ from_bits 8 f + from_bits 8 (λ i. f (8 + i)) * 256
unfolding from_bits
two_bytes f = omega arith

-- the bits of two bytes that follow each other, as one number
pub word-bit : (bytes : List ℕ) (q : ℕ) → get_or bytes q 0 < 256 → get_or bytes (q + 1) 0 < 256
    → (p : ℕ) → p < 16 → ((get_or bytes q 0 + get_or bytes (q + 1) 0 * 256) / 2 ^ p) % 2 ≡ bit_of bytes (8 * q + p)
word-bit bytes q l h p r =
    ap (λ (w : ℕ). (w / 2 ^ p) % 2) (sym word)
    ∙ number_bit 16 (λ i. bit_of bytes (8 * q + i)) (λ i k. bit-bound bytes (8 * q + i)) p r
  where
    high : from_bits 8 (λ i. bit_of bytes (8 * q + (8 + i))) ≡ get_or bytes (q + 1) 0
    high = number_same 8 _ _ (λ i k. ap (bit_of bytes) (omega arith)) ∙ byte-bits bytes (q + 1) h

    word : from_bits 16 (λ i. bit_of bytes (8 * q + i)) ≡ get_or bytes q 0 + get_or bytes (q + 1) 0 * 256
    word = two_bytes (λ i. bit_of bytes (8 * q + i)) ∙ ap₂ (λ (x y : ℕ). x + y * 256) (byte-bits bytes q l) high

-- PARTS. A part of m bytes from byte n on has the bits from 8·n on
pub part-bit : (n m : ℕ) (bytes : List ℕ) (k : ℕ) → k < 8 * m → bit_of (take m (drop n bytes)) k ≡ bit_of bytes (8 * n + k)
unfolding bit_of
part-bit n m bytes k h =
    let x : (8 * n + k) / 8 ≡ n + k / 8 = omega arith in
    let y : (8 * n + k) % 8 ≡ k % 8 = omega arith in
    ap (λ (v : ℕ). (v / 2 ^ (k % 8)) % 2) (get_or-take m (drop n bytes) (k / 8) 0 (omega arith) ∙ get_or-drop n bytes (k / 8) 0)
    ∙ ap₂ (λ (i j : ℕ). (get_or bytes i 0 / 2 ^ j) % 2) (sym x) (sym y)

-- A BIT SET. A digit that is 0, set, is 1
digit-same : (x p : ℕ) → (x / 2 ^ p) % 2 ≡ 0 → ((x + 2 ^ p) / 2 ^ p) % 2 ≡ 1
digit-same x p h = omega (arith, add-div_right x (pow_pos p))

-- a digit below it stays
digit-below : (x q e : ℕ) → ((x + 2 ^ (e + 1 + q)) / 2 ^ q) % 2 ≡ (x / 2 ^ q) % 2
digit-below x q e = rw (pow-add 2 (e + 1) q, add-mul-div_right x (2 ^ (e + 1)) (pow_pos q)) (omega (arith, pow-add 2 e 1))

-- the digits above a digit
past : (n p e : ℕ) → n / 2 ^ (p + 1 + e) ≡ n / 2 ^ p / 2 / 2 ^ e
past n p e = sym (shr-shr n (p + 1) e) ∙ ap (λ (y : ℕ). y / 2 ^ e) (sym (shr-shr n p 1))

-- a digit above it stays
digit-above : (x p e : ℕ) → (x / 2 ^ p) % 2 ≡ 0 → ((x + 2 ^ p) / 2 ^ (p + 1 + e)) % 2 ≡ (x / 2 ^ (p + 1 + e)) % 2
digit-above x p e h =
    let k : (x + 2 ^ p) / 2 ^ p / 2 ≡ x / 2 ^ p / 2 = omega (arith, add-div_right x (pow_pos p)) in
    ap (λ (y : ℕ). y % 2) (past (x + 2 ^ p) p e ∙ ap (λ (y : ℕ). y / 2 ^ e) k ∙ sym (past x p e))

-- every other digit stays
digit-other : (x p q : ℕ) → (x / 2 ^ p) % 2 ≡ 0 → (q ≡ p → ⊥) → ((x + 2 ^ p) / 2 ^ q) % 2 ≡ (x / 2 ^ q) % 2
digit-other x p q h n =
    ne_cases q p (((x + 2 ^ p) / 2 ^ q) % 2 ≡ (x / 2 ^ q) % 2) n
    (λ l.
    let e : p - q - 1 + 1 + q ≡ p = omega arith in
    subst (λ (r : ℕ). ((x + 2 ^ r) / 2 ^ q) % 2 ≡ (x / 2 ^ q) % 2) e (digit-below x q (p - q - 1)))
    (λ l.
    let e : p + 1 + (q - p - 1) ≡ q = omega arith in
    subst (λ (r : ℕ). ((x + 2 ^ p) / 2 ^ r) % 2 ≡ (x / 2 ^ r) % 2) e (digit-above x p (q - p - 1) h))

-- a byte in which a digit that is 0 is set is still a byte
pub byte_fits : (x p : ℕ) → p < 8 → x < 256 → (x / 2 ^ p) % 2 ≡ 0 → x + 2 ^ p < 256
byte_fits x p l b h =
    cases8 (λ (p : ℕ). (x / 2 ^ p) % 2 ≡ 0 → x + 2 ^ p < 256)
    (λ h. omega arith) (λ h. omega arith) (λ h. omega arith) (λ h. omega arith)
    (λ h. omega arith) (λ h. omega arith) (λ h. omega arith) (λ h. omega arith)
    p l h

-- as many bytes as before
pub length-with_bit : (bytes : List ℕ) (k : ℕ) → length (with_bit bytes k) ≡ length bytes
unfolding with_bit
length-with_bit bytes k = length-set bytes (k / 8) _

module _ (bytes : List ℕ) (k : ℕ) (u : Unset bytes k) where
  -- the bit set is 1
  pub bit-same : bit_of (with_bit bytes k) k ≡ 1
  unfolding bit_of with_bit
  bit-same =
      ap (λ (x : ℕ). (x / 2 ^ (k % 8)) % 2) (get_or-set_same bytes (k / 8) (get_or bytes (k / 8) 0 + 2 ^ (k % 8)) 0 (omega (arith, u.inside)))
      ∙ digit-same (get_or bytes (k / 8) 0) (k % 8) u.zero_there

  -- every other bit is as it was
  pub bit-other : (j : ℕ) → (j ≡ k → ⊥) → bit_of (with_bit bytes k) j ≡ bit_of bytes j
  unfolding bit_of with_bit
  bit-other j n =
      let x = get_or bytes (k / 8) 0 in
      ⊎_elim
      (λ e.
      rw e (ap (λ (y : ℕ). (y / 2 ^ (j % 8)) % 2) (get_or-set_same bytes (k / 8) (x + 2 ^ (k % 8)) 0 (omega (arith, u.inside)))
      ∙ digit-other x (k % 8) (j % 8) u.zero_there (λ f. n (omega arith))))
      (λ e. ap (λ (y : ℕ). (y / 2 ^ (j % 8)) % 2) (get_or-set_other bytes (k / 8) (j / 8) (x + 2 ^ (k % 8)) 0 e))
      (same? (j / 8) (k / 8))

  -- they stay bytes
  pub octets-with_bit : Octets bytes → Octets (with_bit bytes k)
  unfolding bit_of with_bit
  octets-with_bit o = record {
    below = λ q h.
        let l : q < length bytes = omega (arith, length-with_bit bytes k) in
        ⊎_elim
        (λ e. rw (e, get_or-set_same bytes (k / 8) (get_or bytes (k / 8) 0 + 2 ^ (k % 8)) 0 (omega (arith, u.inside)))
        (byte_fits (get_or bytes (k / 8) 0) (k % 8) (mod-lt k (zero-lt-suc 7)) (o.below (k / 8) (omega (arith, u.inside))) u.zero_there))
        (λ e. rw (get_or-set_other bytes (k / 8) q (get_or bytes (k / 8) 0 + 2 ^ (k % 8)) 0 e) (o.below q l))
        (same? q (k / 8));
  }
