-- Laws of a block, which is eight stages.
--   by_place             what holds of the places below n and of the others holds of all
--   listed_le            a list of numbers within a bound, read anywhere
--   bit_le               a bit at a place of the low byte
--   marked-is            the marked prices of a row
--   run-le, run-most     what k stages add at most, so that all eight leave room for a price
--   word-le              a word is at most 3
--   run_more             a stage more of 64 states
--   Four, four-more      the four states of the short code, and a stage more of them
--   ran_le, settled-le   for callers: the bounds of what a block leaves, and of what is settled
use mathlib.Core.Path.{◌≡◌, refl, ap, ap₂, ◌∙◌}
use mathlib.Core.Bool.{Bool, true, false}
use mathlib.Core.List.{List, [], ◌∷◌}
use Prim.Native.Nat.{ℕ, zero, suc, ◌+◌, ◌-◌, ◌*◌, ◌%◌, ◌^◌, ◌<◌, ◌≤◌, min}
use native.Mathlib.Omega.{arith}
use native.Mathlib.Nat.{add-le-add, mul-le-mul, min-le_right, le_trans, le_of_eq}
use lib.Count.{ones, ones_in}
use lib.Dec.{ltb}
use lib.ListN.{get_or}
use lib.Pow.{pow_mono}
use borrow.Author.Tests.{ltb-true, ltb-false}
use Rattle.cells.specs.Places.{list_of, from_bits}
use Rattle.cells.proofs.Places.{list_of-at}
use Rattle.codes.specs.Generators.{Generators, digit, short}
use Rattle.codes.specs.Taps.{taps_of, parity_of, word_of}
use Rattle.stages.specs.Stage.{ceiling, most_cost, words_of, stage_of, staged_at, Staged}
use Rattle.stage_blocks.specs.Blocks.{pick_at, flag_of, marked_of, block_of, settled_of, Ran, Settled}
use Rattle.stages.proofs.Stages.{stage-same, stage-le}

-- PLACES. What holds of the places below n and of the others holds of all
pub by_place : {P : ℕ → Type 0} (n : ℕ) → ((i : ℕ) → i < n → P i) → ((i : ℕ) → n ≤ i → P i) → (i : ℕ) → P i
by_place {P} n p q i = go (ltb i n) refl
  where
    go : (b : Bool) → ltb i n ≡ b → P i
    go true e = p i (ltb-true i n e)
    go false e = q i (ltb-false i n e)

-- a list of numbers within a bound is within it wherever it is read
pub listed_le : (n : ℕ) (f : ℕ → ℕ) (m : ℕ) → ((i : ℕ) → f i ≤ m) → (k : ℕ) → get_or (list_of n f) k 0 ≤ m
unfolding list_of
listed_le zero f m h k = omega arith
listed_le (suc n) f m h zero = h 0
listed_le (suc n) f m h (suc k) = listed_le n (λ i. f (suc i)) m (λ i. h (suc i)) k

-- MARKS. A bit at a place of the low byte
pub bit_le : (b k : ℕ) → b ≤ 1 → k ≤ 7 → b * 2 ^ k ≤ 128
bit_le b k h l = let q : b * 2 ^ k ≤ 1 * 2 ^ 7 = mul-le-mul h (pow_mono l) in q

-- the prices of a row r with the marks: z for the words 0 and 2, o for the words 1 and 3
pub marked-is : (rows : List ℕ) (r k : ℕ) {z o : ℕ} → z ≡ r % 2 * 2 ^ k → o ≡ (1 - r % 2) * 2 ^ k → (j : ℕ) → j ≤ 3
    → get_or ((get_or rows (4 * r) 0 + z) ∷ (get_or rows (4 * r + 1) 0 + o) ∷ (get_or rows (4 * r + 2) 0 + z) ∷ (get_or rows (4 * r + 3) 0 + o) ∷ [])
    j 0 ≡ marked_of rows r k j
unfolding marked_of flag_of
marked-is rows r k p q zero h =
    let a : 4 * r ≡ 4 * r + 0 = omega arith in
    let b : r % 2 ≡ (r % 2 + 0) % 2 = omega arith in
    ap₂ ◌+◌ (ap (λ (i : ℕ). get_or rows i 0) a) (p ∙ ap (λ (x : ℕ). x * 2 ^ k) b)
marked-is rows r k p q (suc zero) h =
    let b : 1 - r % 2 ≡ (r % 2 + 1) % 2 = omega arith in
    ap (λ (x : ℕ). get_or rows (4 * r + 1) 0 + x) (q ∙ ap (λ (x : ℕ). x * 2 ^ k) b)
marked-is rows r k p q (suc (suc zero)) h =
    let b : r % 2 ≡ (r % 2 + 2) % 2 = omega arith in
    ap (λ (x : ℕ). get_or rows (4 * r + 2) 0 + x) (p ∙ ap (λ (x : ℕ). x * 2 ^ k) b)
marked-is rows r k p q (suc (suc (suc zero))) h =
    let b : 1 - r % 2 ≡ (r % 2 + 3) % 2 = omega arith in
    ap (λ (x : ℕ). get_or rows (4 * r + 3) 0 + x) (q ∙ ap (λ (x : ℕ). x * 2 ^ k) b)
marked-is rows r k p q (suc (suc (suc (suc j)))) h = absurd (let z : ⊥ = omega arith in z)

-- a mark adds 128 at most
marked-le : (rows : List ℕ) (r k : ℕ) → k ≤ 7 → ((i : ℕ) → get_or rows i 0 ≤ ceiling) → (j : ℕ) → marked_of rows r k j ≤ ceiling + 128
unfolding marked_of flag_of
marked-le rows r k h p j = add-le-add (p (4 * r + j)) (bit_le ((r % 2 + j) % 2) k (omega arith) h)

-- BOUNDS. k stages add k marked prices at most
pub run-le : (n : ℕ) (words : ℕ → ℕ) (rows : List ℕ) (picks : ℕ) (after : ℕ → ℕ)
    → ((i : ℕ) → get_or rows i 0 ≤ ceiling) → ((i : ℕ) → after i ≤ ceiling)
    → (k s : ℕ) → k ≤ 8 → block_of 8 n words rows picks after k s ≤ ceiling + k * (ceiling + 128)
unfolding block_of
run-le n words rows picks after p q zero s h = omega (arith, q s)
run-le n words rows picks after p q (suc k) s h =
    let a = stage-le n (ceiling + k * (ceiling + 128)) (ceiling + 128) words (marked_of rows (pick_at picks (8 - suc k)) k)
    (block_of 8 n words rows picks after k)
    (λ i. run-le n words rows picks after p q k i (omega arith)) (marked-le rows (pick_at picks (8 - suc k)) k (omega arith) p) s in
    omega arith

-- so there is room for a price after each of the eight
pub run-most : (n : ℕ) (words : ℕ → ℕ) (rows : List ℕ) (picks : ℕ) (after : ℕ → ℕ)
    → ((i : ℕ) → get_or rows i 0 ≤ ceiling) → ((i : ℕ) → after i ≤ ceiling)
    → (k s : ℕ) → k ≤ 8 → block_of 8 n words rows picks after k s ≤ most_cost
run-most n words rows picks after p q k s h = omega (arith, run-le n words rows picks after p q k s h)

-- WORDS. A word is two bits
pub word-le : (G : Generators) (w : ℕ) → word_of G w ≤ 3
unfolding word_of parity_of
word-le G w = omega arith

-- 64 STATES. A stage more, by lists: stage i after k others
pub run_more : (G : Generators) (rows : List ℕ) (picks : ℕ) (after : ℕ → ℕ) (k i : ℕ) {costs prices exit : List ℕ} → k + i ≡ 7
    → ((s : ℕ) → s < 64 → get_or costs s 0 ≡ block_of 8 64 (words_of G) rows picks after k s)
    → ((j : ℕ) → j ≤ 3 → get_or prices j 0 ≡ marked_of rows (pick_at picks i) (7 - i) j)
    → Staged 64 costs (list_of 64 (words_of G)) prices exit
    → (s : ℕ) → s < 64 → get_or exit s 0 ≡ block_of 8 64 (words_of G) rows picks after (8 - i) s
unfolding block_of staged_at
run_more G rows picks after k i e p q t s h =
    let a : i ≡ 8 - suc k = omega arith in
    let b : 7 - i ≡ k = omega arith in
    let d : 8 - i ≡ suc k = omega arith in
    rw d (t.states s h
    ∙ stage-same 64 _ _ _ (words_of G) (marked_of rows (pick_at picks i) (7 - i)) (block_of 8 64 (words_of G) rows picks after k) s
    (list_of-at 64 (words_of G) s 0 h) (word-le G (2 * s)) q (p (2 * s % 64) (omega arith)) (p (2 * s % 64 + 1) (omega arith))
    ∙ ap₂ (λ (x y : ℕ). stage_of 64 (words_of G) (marked_of rows (pick_at picks x) y) (block_of 8 64 (words_of G) rows picks after k) s) a b)

-- FOUR STATES. Four numbers are those of the four states, and leave room for a price
pub record Four (f : ℕ → ℕ) (a b c d : ℕ) : Type 0 where
  pub a-is : a ≡ f 0
  pub b-is : b ≡ f 1
  pub c-is : c ≡ f 2
  pub d-is : d ≡ f 3
  pub a-le : a ≤ most_cost
  pub b-le : b ≤ most_cost
  pub c-le : c ≤ most_cost
  pub d-le : d ≤ most_cost

-- a stage more of the short code
pub four-more : (rows : List ℕ) (picks : ℕ) (after : ℕ → ℕ) → ((i : ℕ) → get_or rows i 0 ≤ ceiling) → ((i : ℕ) → after i ≤ ceiling)
    → (k i : ℕ) (p : List ℕ) {a b c d e f g h : ℕ} → k + i ≡ 7 → Four (block_of 8 4 (words_of short) rows picks after k) a b c d
    → ((j : ℕ) → j ≤ 3 → get_or p j 0 ≡ marked_of rows (pick_at picks i) (7 - i) j)
    → e ≡ min (a + get_or p 0 0) (b + get_or p 3 0) → f ≡ min (c + get_or p 1 0) (d + get_or p 2 0)
    → g ≡ min (a + get_or p 3 0) (b + get_or p 0 0) → h ≡ min (c + get_or p 2 0) (d + get_or p 1 0)
    → Four (block_of 8 4 (words_of short) rows picks after (8 - i)) e f g h
unfolding block_of stage_of word_of parity_of taps_of from_bits digit ones ones_in
four-more rows picks after u v k i p z four q e f g h =
    let R = block_of 8 4 (words_of short) rows picks after in
    let x : i ≡ 8 - suc k = omega arith in
    let y : 7 - i ≡ k = omega arith in
    let w : 8 - i ≡ suc k = omega arith in
    let m : (j : ℕ) → j ≤ 3 → get_or p j 0 ≡ marked_of rows (pick_at picks (8 - suc k)) k j = λ j l.
    q j l ∙ ap₂ (λ (r t : ℕ). marked_of rows (pick_at picks r) t j) x y in
    let p0 = m 0 (omega arith) in
    let p1 = m 1 (omega arith) in
    let p2 = m 2 (omega arith) in
    let p3 = m 3 (omega arith) in
    let e' : _ ≡ R (suc k) 0 = e ∙ ap₂ min (ap₂ ◌+◌ four.a-is p0) (ap₂ ◌+◌ four.b-is p3) in
    let f' : _ ≡ R (suc k) 1 = f ∙ ap₂ min (ap₂ ◌+◌ four.c-is p1) (ap₂ ◌+◌ four.d-is p2) in
    let g' : _ ≡ R (suc k) 2 = g ∙ ap₂ min (ap₂ ◌+◌ four.a-is p3) (ap₂ ◌+◌ four.b-is p0) in
    let h' : _ ≡ R (suc k) 3 = h ∙ ap₂ min (ap₂ ◌+◌ four.c-is p2) (ap₂ ◌+◌ four.d-is p1) in
    let n : (s : ℕ) → R (suc k) s ≤ most_cost = λ s. run-most 4 (words_of short) rows picks after u v (suc k) s (omega arith) in
    rw w (record {
      a-is = e';
      b-is = f';
      c-is = g';
      d-is = h';
      a-le = le_trans (le_of_eq e') (n 0);
      b-le = le_trans (le_of_eq f') (n 1);
      c-le = le_trans (le_of_eq g') (n 2);
      d-le = le_trans (le_of_eq h') (n 3);
    })

-- FOR CALLERS. What a block leaves has room for a price: the states it has done, and the places it has not touched
pub ran_le : {n : ℕ} {words : ℕ → ℕ} {rows : List ℕ} {picks : ℕ} {entry exit : List ℕ} → Ran n words rows picks entry exit
    → ((i : ℕ) → get_or entry i 0 ≤ ceiling) → ((i : ℕ) → get_or rows i 0 ≤ ceiling) → (i : ℕ) → get_or exit i 0 ≤ most_cost
ran_le {n} {words} {rows} {picks} {entry} {exit} ran p q =
    by_place n
    (λ i h. le_trans (le_of_eq (ran.states i h)) (run-most n words rows picks (λ s. get_or entry s 0) q p 8 i (omega arith)))
    (λ i h. omega (arith, ran.others i h, p i))

-- what is settled is cut off, where the places that are not touched were
pub settled-le : {n : ℕ} {entry exit : List ℕ} → Settled n entry exit → ((i : ℕ) → n ≤ i → get_or entry i 0 ≤ ceiling)
    → (i : ℕ) → get_or exit i 0 ≤ ceiling
unfolding settled_of
settled-le {n} {entry} {exit} settled p =
    by_place n
    (λ i h. le_trans (le_of_eq (settled.states i h)) (min-le_right _ ceiling))
    (λ i h. le_trans (le_of_eq (settled.others i h)) (p i h))
