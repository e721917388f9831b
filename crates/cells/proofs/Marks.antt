-- Marked cells, and a page emptied but for them.
--   zeros-bit        bytes of zeros have no bit
--   zero-map         a map of zeros marks no cell, and nor does an empty one (no-map)
--   emptied-length   a page emptied is as long as before
--   emptied-bit      a marked cell has its bits, every other has zeros
--   emptied-level    and so its levels, past the end as well
--   emptied-marked   a marked cell keeps its three bits, and its level (emptied-kept)
--   emptied-other    every other cell is at level 0
--   emptied-raises   the sum of the levels is that of the marked cells
--   emptied-none     with no cell marked every byte is 0
--   emptied-same     it depends on the marks of the page's own cells alone
--   emptied-levels   pages with the same levels, emptied, have the same levels
--   kept_bit-bound   a bit kept is a bit: that of a marked cell (-marked), and 0 for another (-other)
--   kept_byte-none   a byte none of whose cells is marked is 0
--   emptied-byte     a byte of the page emptied is the byte kept
use mathlib.Core.Path.{◌≡◌, refl, sym, ◌∙◌, ap, fun_ext}
use mathlib.Core.Bool.{Bool, true, false, cond}
use mathlib.Core.List.{List, [], ◌∷◌}
use Prim.Native.Nat.{ℕ, zero, suc, ◌<◌, ◌≤◌, ◌+◌, ◌*◌, ◌/◌, ◌%◌, ◌^◌}
use native.Mathlib.Omega.{arith}
use native.Mathlib.Nat.{zero-div}
use lib.Dec.{eqb, ltb}
use lib.ListN.{length, get_or, replicate}
use borrow.Author.Tests.{ltb-true, ltb-false, eq-eqb, ne_eqb}
use Rattle.cells.specs.Places.{list_of, sum_of, from_bits}
use Rattle.cells.specs.Bytes.{bit_of, bytes_of}
use Rattle.cells.specs.Levels.{level, raises_of, SameLevels}
use Rattle.cells.specs.Raising.{triple}
use Rattle.cells.specs.Marks.{marks_in, emptied, kept_bit, kept_byte}
use Rattle.cells.proofs.Places.{list_of-at, sum_of-same, number_same, zeros-at}
use Rattle.cells.proofs.Bytes.{bit-bound, length-bytes_of, bytes_of-bit, bytes_of-same}
use Rattle.cells.proofs.Levels.{level-same, bit_past, levels-at}

-- BYTES OF ZEROS have no bit
pub zeros-bit : (n k : ℕ) → bit_of (replicate n 0) k ≡ 0
unfolding bit_of
zeros-bit n k = rw (zeros-at n (k / 8)) (ap (λ (x : ℕ). x % 2) (zero-div (2 ^ (k % 8))))

-- MAPS. A map of zeros marks no cell
pub zero-map : (n : ℕ) → marks_in (replicate n 0) ≡ (λ c. false)
unfolding marks_in
zero-map n = fun_ext λ c. ap (λ (b : ℕ). eqb b 1) (zeros-bit n _)

-- nor does an empty one
pub no-map : marks_in [] ≡ (λ c. false)
no-map = zero-map 0

-- THE PAGE EMPTIED
module _ (marks : ℕ → Bool) (page : List ℕ) where
  -- is as long as before
  pub emptied-length : length (emptied marks page) ≡ length page
  unfolding emptied
  emptied-length = length-bytes_of (length page) _

  -- a marked cell has its bits, every other has zeros, and so has what lies past the end
  pub emptied-bit : (k : ℕ) → bit_of (emptied marks page) k ≡ cond (marks (k / 3)) (bit_of page k) 0
  unfolding emptied
  emptied-bit k = go (ltb k (8 * length page)) refl
    where
      small : (b : Bool) (i : ℕ) → cond b (bit_of page i) 0 < 2
      small true i = bit-bound page i
      small false i = omega arith

      past : (b : Bool) → bit_of page k ≡ 0 → 0 ≡ cond b (bit_of page k) 0
      past true e = sym e
      past false e = refl

      go : (b : Bool) → ltb k (8 * length page) ≡ b → bit_of (emptied marks page) k ≡ cond (marks (k / 3)) (bit_of page k) 0
      go true e = bytes_of-bit (length page) _ (λ i. small (marks (i / 3)) i) k (ltb-true _ _ e)
      go false e =
          let h : 8 * length page ≤ k = ltb-false _ _ e in
          bit_past (emptied marks page) k (omega (arith, emptied-length)) ∙ past (marks (k / 3)) (bit_past page k h)

  -- bit i of cell c
  emptied-own : (c i : ℕ) → i < 3 → bit_of (emptied marks page) (3 * c + i) ≡ cond (marks c) (bit_of page (3 * c + i)) 0
  emptied-own c i h =
      let e : (3 * c + i) / 3 ≡ c = omega arith in
      emptied-bit (3 * c + i) ∙ ap (λ (d : ℕ). cond (marks d) (bit_of page (3 * c + i)) 0) e

  -- CELLS. A marked one keeps its three bits
  pub emptied-marked : (c : ℕ) → marks c ≡ true → triple (emptied marks page) c ≡ triple page c
  unfolding triple
  emptied-marked c m =
      let z : 3 * c + 0 ≡ 3 * c = omega arith in
      let own = rw m at (emptied-own c) in
      rw (rw z at (own 0 (omega arith)), own 1 (omega arith), own 2 (omega arith))

  -- and so its level
  pub emptied-kept : (c : ℕ) → marks c ≡ true → level (emptied marks page) c ≡ level page c
  emptied-kept c m = level-same _ _ c c (rw m at (emptied-own c))

  -- every other one is at level 0
  pub emptied-other : (c : ℕ) → marks c ≡ false → level (emptied marks page) c ≡ 0
  unfolding level
  emptied-other c m =
      let z : 3 * c + 0 ≡ 3 * c = omega arith in
      let own = rw m at (emptied-own c) in
      omega (arith, rw z at (own 0 (omega arith)), own 1 (omega arith), own 2 (omega arith))

  -- both in one
  pub emptied-level : (c : ℕ) → level (emptied marks page) c ≡ cond (marks c) (level page c) 0
  emptied-level c = go (marks c) refl
    where
      go : (b : Bool) → marks c ≡ b → level (emptied marks page) c ≡ cond b (level page c) 0
      go true m = emptied-kept c m
      go false m = emptied-other c m

  -- 'The sum of levels after an erase is that of the marked cells'
  pub emptied-raises : (n : ℕ) → raises_of n (emptied marks page) ≡ sum_of n (λ c. cond (marks c) (level page c) 0)
  unfolding raises_of
  emptied-raises n = sum_of-same n _ _ (λ c h. emptied-level c)

-- WITH NO CELL MARKED every byte is 0
zeros : (n : ℕ) → list_of {A = ℕ} n (λ q. 0) ≡ replicate n 0
unfolding list_of
zeros zero = refl
zeros (suc n) = ap (λ (l : List ℕ). 0 ∷ l) (zeros n)

pub emptied-none : (page : List ℕ) → emptied (λ c. false) page ≡ replicate (length page) 0
unfolding emptied bytes_of from_bits
emptied-none page = zeros (length page)

-- THE SAME. It depends on the marks of the page's own cells alone
pub emptied-same : (few more : ℕ → Bool) (page : List ℕ) → ((c : ℕ) → 3 * c < 8 * length page → few c ≡ more c)
    → emptied few page ≡ emptied more page
unfolding emptied
emptied-same few more page e =
    bytes_of-same (length page) _ _ (λ k h. ap (λ (b : Bool). cond b (bit_of page k) 0) (e (k / 3) (omega arith)))

-- pages with the same levels, emptied, have the same levels
pub emptied-levels : (marks : ℕ → Bool) {x y : List ℕ} → SameLevels x y → SameLevels (emptied marks x) (emptied marks y)
emptied-levels marks {x} {y} s = record {
  size = emptied-length marks x ∙ s.size ∙ sym (emptied-length marks y);
  same = λ c h.
      emptied-level marks x c ∙ ap (λ (l : ℕ). cond (marks c) l 0) (levels-at s c) ∙ sym (emptied-level marks y c);
}

-- BYTES. A bit kept is a bit
module _ (byte marked third j : ℕ) where
  pub kept_bit-bound : kept_bit byte marked third j < 2
  unfolding kept_bit
  kept_bit-bound = go (eqb ((marked / 2 ^ ((8 * third + j) / 3)) % 2) 1)
    where
      go : (b : Bool) → cond b ((byte / 2 ^ j) % 2) 0 < 2
      go true = omega arith
      go false = omega arith

  -- that of a marked cell
  pub kept_bit-marked : (marked / 2 ^ ((8 * third + j) / 3)) % 2 ≡ 1 → kept_bit byte marked third j ≡ (byte / 2 ^ j) % 2
  unfolding kept_bit
  kept_bit-marked e = rw (eq-eqb _ _ e)

  -- and 0 for another
  pub kept_bit-other : ((marked / 2 ^ ((8 * third + j) / 3)) % 2 ≡ 1 → ⊥) → kept_bit byte marked third j ≡ 0
  unfolding kept_bit
  kept_bit-other n = rw (ne_eqb _ _ n)

-- a byte none of whose cells is marked is 0
pub kept_byte-none : (byte third : ℕ) → kept_byte byte 0 third ≡ 0
unfolding kept_byte from_bits
kept_byte-none byte third =
    number_same 8 _ (λ j. 0) (λ j h. kept_bit-other byte 0 third j (λ e. omega (arith, zero-div (2 ^ ((8 * third + j) / 3)))))

-- the cells of byte i lie in byte i div 3 of the map
pub emptied-byte : (bits page : List ℕ) (i : ℕ) → i < length page
    → get_or (emptied (marks_in bits) page) i 0 ≡ kept_byte (get_or page i 0) (get_or bits (i / 3) 0) (i % 3)
unfolding emptied bytes_of marks_in bit_of kept_byte kept_bit
emptied-byte bits page i h =
    list_of-at (length page) _ i 0 h
    ∙ number_same 8 _ _ (λ j l.
    let x : (8 * i + j) / 3 ≡ 8 * (i / 3) + (8 * (i % 3) + j) / 3 = omega arith in
    let s : (8 * (i % 3) + j) / 3 < 8 = omega arith in
    let q : (8 * i + j) / 3 / 8 ≡ i / 3 = omega arith in
    let r : (8 * i + j) / 3 % 8 ≡ (8 * (i % 3) + j) / 3 = omega arith in
    let y : (8 * i + j) / 8 ≡ i = omega arith in
    let z : (8 * i + j) % 8 ≡ j = omega arith in
    rw (q, r, y, z))
