-- Levels of cells.
--   level-bound      a level is at most 3
--   level-same       the same three bits, the same level
--   raises_of-more   the levels of one cell more, added up
--   bit_past         past the end a bit is 0, and so is a level (level-past)
--   levels-at        pages with the same levels: each level, also past the end; both ways round (levels-sym); a page itself (levels-self)
--   three-bits       three bits in a row are the ones of three digits of two bytes
use mathlib.Core.Path.{◌≡◌, refl, sym, ◌∙◌, ap}
use mathlib.Core.Bool.{Bool, true, false}
use mathlib.Core.List.{List}
use Prim.Native.Nat.{ℕ, suc, ◌<◌, ◌≤◌, ◌+◌, ◌*◌, ◌/◌, ◌%◌, ◌^◌}
use native.Mathlib.Omega.{arith}
use native.Mathlib.Nat.{mod-lt, zero-lt-suc, zero-div}
use lib.Dec.{ltb}
use lib.ListN.{length, get_or, get_or-eq_default}
use lib.Count.{ones, ones_in}
use lib.Pow.{shr-shr}
use borrow.Author.Tests.{ltb-true, ltb-false}
use Rattle.cells.specs.Bytes.{bit_of}
use Rattle.cells.specs.Levels.{level, raises_of, SameLevels}
use Rattle.cells.proofs.Places.{sum_of-more}
use Rattle.cells.proofs.Bytes.{bit-bound, cases8, word-bit}

-- a level is at most 3
pub level-bound : (bytes : List ℕ) (c : ℕ) → level bytes c ≤ 3
unfolding level
level-bound bytes c = omega (arith, bit-bound bytes (3 * c), bit-bound bytes (3 * c + 1), bit-bound bytes (3 * c + 2))

-- the same three bits, the same level
pub level-same : (x y : List ℕ) (c d : ℕ) → ((i : ℕ) → i < 3 → bit_of x (3 * c + i) ≡ bit_of y (3 * d + i)) → level x c ≡ level y d
unfolding level
level-same x y c d e =
    let p : 3 * c + 0 ≡ 3 * c = omega arith in
    let q : 3 * d + 0 ≡ 3 * d = omega arith in
    let f : bit_of x (3 * c) ≡ bit_of y (3 * d) = ap (bit_of x) (sym p) ∙ e 0 (omega arith) ∙ ap (bit_of y) q in
    omega (arith, e 1 (omega arith), e 2 (omega arith))

-- one cell more
pub raises_of-more : (n : ℕ) (bytes : List ℕ) → raises_of (suc n) bytes ≡ raises_of n bytes + level bytes n
unfolding raises_of
raises_of-more n bytes = sum_of-more n (level bytes)

-- THE SAME LEVELS. Past the end a bit is 0
pub bit_past : (bytes : List ℕ) (k : ℕ) → 8 * length bytes ≤ k → bit_of bytes k ≡ 0
unfolding bit_of
bit_past bytes k h =
    let e : get_or bytes (k / 8) 0 ≡ 0 = get_or-eq_default bytes 0 (omega arith) in
    ap (λ (x : ℕ). (x / 2 ^ (k % 8)) % 2) e ∙ ap (λ (x : ℕ). x % 2) (zero-div (2 ^ (k % 8)))

-- and so is a level
level-past : (bytes : List ℕ) (c : ℕ) → 8 * length bytes ≤ 3 * c → level bytes c ≡ 0
unfolding level
level-past bytes c h =
    omega (arith, bit_past bytes (3 * c) h, bit_past bytes (3 * c + 1) (omega arith), bit_past bytes (3 * c + 2) (omega arith))

-- so pages with the same levels have each level in common
pub levels-at : {x y : List ℕ} → SameLevels x y → (c : ℕ) → level x c ≡ level y c
levels-at {x} {y} s c = go (ltb (3 * c) (8 * length x)) refl
  where
    go : (b : Bool) → ltb (3 * c) (8 * length x) ≡ b → level x c ≡ level y c
    go true e = s.same c (ltb-true _ _ e)
    go false e =
        let h : 8 * length x ≤ 3 * c = ltb-false _ _ e in
        level-past x c h ∙ sym (level-past y c (omega (arith, s.size)))

-- both ways round
pub levels-sym : {x y : List ℕ} → SameLevels x y → SameLevels y x
levels-sym s = record { size = sym s.size; same = λ c h. sym (levels-at s c) }

-- a page and itself
pub levels-self : {x : List ℕ} → SameLevels x x
levels-self = record { size = refl; same = λ c h. refl }

-- TWO BYTES. The ones of a number of three digits
ones3 : (t : ℕ) → t < 8 → ones t ≡ t % 2 + (t / 2) % 2 + (t / 4) % 2
unfolding ones ones_in
ones3 = cases8 (λ (t : ℕ). ones t ≡ t % 2 + (t / 2) % 2 + (t / 4) % 2) refl refl refl refl refl refl refl refl

-- three equal parts, equal sums
sum3 : {a a' b b' c c' : ℕ} → a ≡ a' → b ≡ b' → c ≡ c' → a + b + c ≡ a' + b' + c'
sum3 p q r = omega arith

-- the ones of the lowest three digits of a number
digits8 : (x : ℕ) → ones (x % 8) ≡ x % 2 + (x / 2) % 2 + (x / 4) % 2
digits8 x = ones3 (x % 8) (omega arith) ∙ sum3 (omega arith) (omega arith) (omega arith)

-- the ones of three digits of two bytes, from place k mod 8 of the first, are the three bits from bit k on
pub three-bits : (s : List ℕ) (k : ℕ) {a b : ℕ} → (a ≡ get_or s (k / 8) 0) × (a < 256) → (b ≡ get_or s (k / 8 + 1) 0) × (b < 256)
    → ones (((a + b * 256) / 2 ^ (k % 8)) % 8) ≡ bit_of s k + bit_of s (k + 1) + bit_of s (k + 2)
three-bits s k p q =
    let w = get_or s (k / 8) 0 + get_or s (k / 8 + 1) 0 * 256 in
    let l = rw p.0 at p.1 in
    let h = rw q.0 at q.1 in
    let r : k % 8 < 8 = mod-lt k (zero-lt-suc 7) in
    rw (p.0, q.0) (digits8 (w / 2 ^ (k % 8))
    ∙ sum3 (word-bit s (k / 8) l h (k % 8) (omega arith) ∙ ap (bit_of s) (omega arith))
    (ap (λ (x : ℕ). x % 2) (shr-shr w (k % 8) 1) ∙ word-bit s (k / 8) l h (k % 8 + 1) (omega arith) ∙ ap (bit_of s) (omega arith))
    (ap (λ (x : ℕ). x % 2) (shr-shr w (k % 8) 2) ∙ word-bit s (k / 8) l h (k % 8 + 2) (omega arith) ∙ ap (bit_of s) (omega arith)))
