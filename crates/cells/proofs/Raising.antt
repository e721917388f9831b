-- Raising to given levels is exact, wherever the raises of a cell start, and to raise one cell is to set its first zero from there on.
--   triple-bit         bit i of a cell's three bits
--   zero_from-first    the first zero of three bits from bit s on: s itself, or the next (-second), or the one after (-third)
--   raised-bit         three bits that are raised are bits
--   raised_to-length   a page raised is as long as before
--   raised_to-bit      bit i of cell c, and no other list of bytes has these bits (-only)
--   raised_to-level    the levels after it are the given ones
--   raised_to-keeps    a cell that isn't raised keeps its bits
--   raised_to-same     it depends on the levels to reach, and on the starts (-start), of the page's own cells alone
--   raised_to-none     to raise each cell to its own level changes nothing
--   can_rise-yes       which cells can rise, and which cannot (-outside, -full)
--   with_bit-raises    to set the first zero of a cell, which is there (zero_from-unset), is to raise the cell
--   start-in-strip     the start of a cell of a page is that of its number in its strip
--   worn-evenly        neighbouring cells raised once each wear the three bits evenly
use mathlib.Core.Path.{◌≡◌, refl, sym, ◌∙◌, ap, ap₂}
use mathlib.Core.Logic.{⊎_elim}
use mathlib.Core.Bool.{Bool, true, false, ◌&&◌, and-false}
use mathlib.Core.List.{List, [], ◌∷◌}
use Prim.Native.Nat.{ℕ, zero, suc, ◌<◌, ◌≤◌, ◌+◌, ◌*◌, ◌-◌, ◌/◌, ◌%◌}
use native.Mathlib.Omega.{arith}
use lib.Dec.{ltb}
use lib.ListN.{length, get_or, set}
use lib.Seq.{get_or-set_same, get_or-set_other}
use borrow.Author.Tests.{lt-ltb, le-ltb, eq-eqb, ne_eqb}
use Rattle.cells.specs.Bytes.{bit_of, Octets, Unset, with_bit}
use Rattle.cells.specs.Levels.{level}
use Rattle.cells.specs.Raising.{start_of, start_in, zero_from, raise, raised_times, triple, raised_to, one_higher, raised_cell, can_rise}
use Rattle.cells.specs.Places.{sum_of}
use Rattle.cells.proofs.Places.{same?, sum_of-more}
use Rattle.cells.proofs.Parts.{place-mod}
use Rattle.cells.proofs.Bytes.{bit-bound, length-bytes_of, bytes_of-bit, bytes_of-same, bytes_bits}
use Rattle.cells.proofs.Bytes.{length-with_bit, bit-same, bit-other, octets-with_bit}

-- THREE BITS. Each is 0 or 1
data Three : List ℕ → Type 0 where
  three : {x y z : ℕ} → x < 2 → y < 2 → z < 2 → Three (x ∷ y ∷ z ∷ [])

-- the three bits of a cell are bits
triple-three : (page : List ℕ) (c : ℕ) → Three (triple page c)
unfolding triple
triple-three page c = three (bit-bound page (3 * c)) (bit-bound page (3 * c + 1)) (bit-bound page (3 * c + 2))

-- bit i of the three
pub triple-bit : (page : List ℕ) (c i : ℕ) → i < 3 → get_or (triple page c) i 0 ≡ bit_of page (3 * c + i)
unfolding triple
triple-bit page c zero h = ap (bit_of page) (omega arith)
triple-bit page c (suc zero) h = refl
triple-bit page c (suc (suc zero)) h = refl
triple-bit page c (suc (suc (suc i))) h = absurd (let z : ⊥ = omega arith in z)

-- each of three bits is 0 or 1
three-bit : {l : List ℕ} → Three l → (i : ℕ) → get_or l i 0 < 2
three-bit (three p q r) zero = p
three-bit (three p q r) (suc zero) = q
three-bit (three p q r) (suc (suc zero)) = r
three-bit (three p q r) (suc (suc (suc i))) = omega arith

-- the number of ones
ones : List ℕ → ℕ
ones l = get_or l 0 0 + get_or l 1 0 + get_or l 2 0

-- ONE BIT SET. Three bits are left
set-three : {l : List ℕ} → Three l → (i : ℕ) → Three (set l i 1)
set-three (three p q r) zero = let h : 1 < 2 = omega arith in three h q r
set-three (three p q r) (suc zero) = let h : 1 < 2 = omega arith in three p h r
set-three (three p q r) (suc (suc zero)) = let h : 1 < 2 = omega arith in three p q h
set-three (three p q r) (suc (suc (suc i))) = three p q r

-- with a one more, where the bit was 0
set-ones : {l : List ℕ} → Three l → (i : ℕ) → i < 3 → get_or l i 0 ≡ 0 → ones (set l i 1) ≡ suc (ones l)
unfolding ones
set-ones (three p q r) zero h e = omega arith
set-ones (three p q r) (suc zero) h e = omega arith
set-ones (three p q r) (suc (suc zero)) h e = omega arith
set-ones (three p q r) (suc (suc (suc i))) h e = absurd (let z : ⊥ = omega arith in z)

-- THE FIRST ZERO from bit s on is that bit
module _ (s : ℕ) (bits : List ℕ) where
  pub zero_from-first : get_or bits (s % 3) 0 ≡ 0 → zero_from s bits ≡ s % 3
  unfolding zero_from
  zero_from-first e = rw (eq-eqb _ _ e)

  -- or the next
  pub zero_from-second : (get_or bits (s % 3) 0 ≡ 0 → ⊥) → get_or bits ((s + 1) % 3) 0 ≡ 0 → zero_from s bits ≡ (s + 1) % 3
  unfolding zero_from
  zero_from-second n e = rw (ne_eqb _ _ n, eq-eqb _ _ e)

  -- or the one after
  pub zero_from-third : (get_or bits (s % 3) 0 ≡ 0 → ⊥) → (get_or bits ((s + 1) % 3) 0 ≡ 0 → ⊥) → zero_from s bits ≡ (s + 2) % 3
  unfolding zero_from
  zero_from-third n m = rw (ne_eqb _ _ n, ne_eqb _ _ m)

-- going round from any bit on meets all three
ones-round : (s : ℕ) (l : List ℕ) → get_or l (s % 3) 0 + get_or l ((s + 1) % 3) 0 + get_or l ((s + 2) % 3) 0 ≡ ones l
unfolding ones
ones-round zero l = refl
ones-round (suc s) l =
    let a : suc s % 3 ≡ (s + 1) % 3 = omega arith in
    let b : (suc s + 1) % 3 ≡ (s + 2) % 3 = omega arith in
    let c : (suc s + 2) % 3 ≡ s % 3 = omega arith in
    rw (a, b, c) (omega (arith, ones-round s l))

-- so a zero is found where there is one
zero_from-zero : (s : ℕ) (l : List ℕ) → ones l < 3 → (zero_from s l < 3) × (get_or l (zero_from s l) 0 ≡ 0)
zero_from-zero s l h =
    ⊎_elim
    (λ e. rw (zero_from-first s l e) (omega arith, e))
    (λ n.
    ⊎_elim
    (λ e. rw (zero_from-second s l n e) (omega arith, e))
    (λ m. rw (zero_from-third s l n m) (omega arith, omega (arith, ones-round s l)))
    (same? (get_or l ((s + 1) % 3) 0) 0))
    (same? (get_or l (s % 3) 0) 0)

-- RAISES. Three bits are left
module _ (s : ℕ) where
  raised-three : (n : ℕ) {l : List ℕ} → Three l → Three (raised_times s n l)
  unfolding raised_times raise
  raised-three zero t = t
  raised-three (suc n) {l} t = set-three (raised-three n t) (zero_from s (raised_times s n l))

  -- each raise adds a one
  raised-ones : (n : ℕ) {l : List ℕ} → Three l → ones l + n ≤ 3 → ones (raised_times s n l) ≡ ones l + n
  unfolding raised_times raise
  raised-ones zero t h = omega arith
  raised-ones (suc n) {l} t h =
      let m = raised_times s n l in
      let e : ones m ≡ ones l + n = raised-ones n t (omega arith) in
      let f = zero_from-zero s m (omega arith) in
      set-ones (raised-three n t) (zero_from s m) f.0 f.1 ∙ omega arith

-- and each of them is 0 or 1
pub raised-bit : (s n : ℕ) {x y z : ℕ} → x < 2 → y < 2 → z < 2 → (i : ℕ) → get_or (raised_times s n (x ∷ y ∷ z ∷ [])) i 0 < 2
raised-bit s n p q r = three-bit (raised-three s n (three p q r))

-- so is each bit of a page raised
raised-small : (start : ℕ → ℕ) (page : List ℕ) (to : ℕ → ℕ) (k : ℕ)
    → get_or (raised_times (start (k / 3)) (to (k / 3) - level page (k / 3)) (triple page (k / 3))) (k % 3) 0 < 2
raised-small start page to k =
    let c = k / 3 in
    three-bit (raised-three (start c) (to c - level page c) (triple-three page c)) (k % 3)

-- THE PAGE. As long as before
module _ (start : ℕ → ℕ) (page : List ℕ) (to : ℕ → ℕ) where
  pub raised_to-length : length (raised_to start page to) ≡ length page
  unfolding raised_to
  raised_to-length = length-bytes_of (length page) _

  -- bit i of cell c
  raised_to-bit : (c i : ℕ) → i < 3 → 3 * c + i < 8 * length page
      → bit_of (raised_to start page to) (3 * c + i) ≡ get_or (raised_times (start c) (to c - level page c) (triple page c)) i 0
  unfolding raised_to
  raised_to-bit c i h k =
      let x : (3 * c + i) / 3 ≡ c = omega arith in
      let y : (3 * c + i) % 3 ≡ i = omega arith in
      bytes_of-bit (length page) _ (raised-small start page to) (3 * c + i) k
      ∙ ap₂ (λ (d j : ℕ). get_or (raised_times (start d) (to d - level page d) (triple page d)) j 0) x y

  -- its levels are the given ones
  pub raised_to-level : (c : ℕ) → 3 * c + 2 < 8 * length page → level page c ≤ to c → to c ≤ 3 → level (raised_to start page to) c ≡ to c
  unfolding level triple ones
  raised_to-level c h l m =
      let z : 3 * c + 0 ≡ 3 * c = omega arith in
      let e = raised-ones (start c) (to c - level page c) (triple-three page c) (omega arith) in
      let b = ap (bit_of (raised_to start page to)) (sym z) ∙ raised_to-bit c 0 (omega arith) (omega arith) in
      omega (arith, b, raised_to-bit c 1 (omega arith) (omega arith), raised_to-bit c 2 (omega arith) h)

  -- a cell that isn't raised keeps its bits
  pub raised_to-keeps : (c i : ℕ) → i < 3 → 3 * c + i < 8 * length page → to c ≤ level page c
      → bit_of (raised_to start page to) (3 * c + i) ≡ bit_of page (3 * c + i)
  unfolding raised_times
  raised_to-keeps c i h k l =
      let e : to c - level page c ≡ 0 = omega arith in
      raised_to-bit c i h k ∙ ap (λ (n : ℕ). get_or (raised_times (start c) n (triple page c)) i 0) e ∙ triple-bit page c i h

  -- the page raised is the one list of bytes with these bits
  raised_to-only : (after : List ℕ) → length after ≡ length page → Octets after
      → ((c i : ℕ) → i < 3 → 3 * c + i < 8 * length page
      → bit_of after (3 * c + i) ≡ get_or (raised_times (start c) (to c - level page c) (triple page c)) i 0)
      → after ≡ raised_to start page to
  unfolding raised_to
  raised_to-only after e b f =
      sym (bytes_bits (length page) after e (λ q h. b.below q (rw e h)))
      ∙ bytes_of-same (length page) _ _ (λ k h.
      let z : 3 * (k / 3) + k % 3 ≡ k = omega arith in
      ap (bit_of after) (sym z) ∙ f (k / 3) (k % 3) (omega arith) (omega arith))

-- it depends on the starts of its own cells alone
pub raised_to-start : (start start' : ℕ → ℕ) (page : List ℕ) (to : ℕ → ℕ) → ((c : ℕ) → 3 * c < 8 * length page → start c ≡ start' c)
    → raised_to start page to ≡ raised_to start' page to
unfolding raised_to
raised_to-start start start' page to e =
    bytes_of-same (length page) _ _ (λ k h.
    ap (λ (s : ℕ). get_or (raised_times s (to (k / 3) - level page (k / 3)) (triple page (k / 3))) (k % 3) 0) (e (k / 3) (omega arith)))

module _ (start : ℕ → ℕ) (page : List ℕ) where
  -- and on the levels to reach of its own cells alone
  pub raised_to-same : (to to' : ℕ → ℕ) → ((c : ℕ) → 3 * c < 8 * length page → to c ≡ to' c)
      → raised_to start page to ≡ raised_to start page to'
  unfolding raised_to
  raised_to-same to to' e =
      bytes_of-same (length page) _ _ (λ k h.
      ap (λ (n : ℕ). get_or (raised_times (start (k / 3)) (n - level page (k / 3)) (triple page (k / 3))) (k % 3) 0) (e (k / 3) (omega arith)))

  -- to raise each cell to its own level changes nothing
  pub raised_to-none : Octets page → raised_to start page (level page) ≡ page
  unfolding raised_times
  raised_to-none o =
      sym (raised_to-only start page (level page) page refl o (λ c i h k.
      let d : 0 ≡ level page c - level page c = omega arith in
      sym (triple-bit page c i h) ∙ ap (λ (n : ℕ). get_or (raised_times (start c) n (triple page c)) i 0) d))

-- ONE CELL
module _ (page : List ℕ) (c : ℕ) where
  -- a cell that lies in the page whole and is below level 3 can rise
  pub can_rise-yes : 3 * c + 2 < 8 * length page → level page c < 3 → can_rise page c ≡ true
  unfolding can_rise
  can_rise-yes h l = ap₂ (λ (a b : Bool). a && b) (lt-ltb _ _ h) (lt-ltb _ _ l)

  -- one that does not lie in it whole cannot
  pub can_rise-outside : 8 * length page ≤ 3 * c + 2 → can_rise page c ≡ false
  unfolding can_rise
  can_rise-outside h = ap (λ (b : Bool). b && ltb (level page c) 3) (le-ltb _ _ h)

  -- nor can one at level 3
  pub can_rise-full : level page c ≡ 3 → can_rise page c ≡ false
  unfolding can_rise
  can_rise-full e =
      let h : 3 ≤ level page c = omega arith in
      ap (λ (b : Bool). ltb (3 * c + 2) (8 * length page) && b) (le-ltb _ _ h) ∙ and-false (ltb (3 * c + 2) (8 * length page))

  -- the raised cell climbs one level
  one_higher-same : one_higher page c c - level page c ≡ 1
  unfolding one_higher
  one_higher-same = rw (eq-eqb c c refl) (omega arith)

  -- every other cell stays
  one_higher-other : (e : ℕ) → (e ≡ c → ⊥) → one_higher page c e - level page e ≡ 0
  unfolding one_higher
  one_higher-other e n = rw (ne_eqb e c n) (omega arith)

-- the page with one cell raised is the one list of bytes with that cell's bits raised and every other cell's as before
raised_cell-only : (start : ℕ → ℕ) (page : List ℕ) (c : ℕ) (after : List ℕ) → length after ≡ length page → Octets after
    → ((i : ℕ) → i < 3 → 3 * c + i < 8 * length page → bit_of after (3 * c + i) ≡ get_or (raise (start c) (triple page c)) i 0)
    → ((e i : ℕ) → (e ≡ c → ⊥) → i < 3 → 3 * e + i < 8 * length page → bit_of after (3 * e + i) ≡ bit_of page (3 * e + i))
    → after ≡ raised_cell start page c
unfolding raised_cell raised_times
raised_cell-only start page c after l o own others =
    raised_to-only start page (one_higher page c) after l o (λ e i h k.
    ⊎_elim
    (λ q. rw q (rw (one_higher-same page c) (own i h (omega arith))))
    (λ q. rw (one_higher-other page c e q) (others e i q h k ∙ sym (triple-bit page e i h)))
    (same? e c))

-- SETTING A BIT. The first zero of a cell below level 3, from any bit on
module _ (s : ℕ) (page : List ℕ) (c : ℕ) (inside : 3 * c + 2 < 8 * length page) (low : level page c < 3) where
  found : (zero_from s (triple page c) < 3) × (get_or (triple page c) (zero_from s (triple page c)) 0 ≡ 0)
  unfolding level triple ones
  found = zero_from-zero s (triple page c) low

  -- lies in the page, and is 0
  pub zero_from-unset : Unset page (3 * c + zero_from s (triple page c))
  zero_from-unset = record {
    inside = omega (arith, found.0);
    zero_there = sym (triple-bit page c _ found.0) ∙ found.1;
  }

-- to set it is to raise the cell
pub with_bit-raises : (start : ℕ → ℕ) (page : List ℕ) (c : ℕ) → 3 * c + 2 < 8 * length page → level page c < 3 → Octets page
    → with_bit page (3 * c + zero_from (start c) (triple page c)) ≡ raised_cell start page c
unfolding triple raise
with_bit-raises start page c inside low o =
    let t = triple page c in
    let z = zero_from (start c) t in
    let u : Unset page (3 * c + z) = zero_from-unset (start c) page c inside low in
    let small : z < 3 = (found (start c) page c inside low).0 in
    raised_cell-only start page c (with_bit page (3 * c + z)) (length-with_bit page (3 * c + z)) (octets-with_bit page (3 * c + z) u o)
    (λ i h k.
    ⊎_elim
    (λ e. rw e (bit-same page (3 * c + z) u ∙ sym (get_or-set_same t z 1 0 small)))
    (λ n. bit-other page (3 * c + z) u (3 * c + i) (λ e. n (omega arith)) ∙ sym (triple-bit page c i h) ∙ sym (get_or-set_other t z i 1 0 n))
    (same? i z))
    (λ e i n h k. bit-other page (3 * c + z) u (3 * e + i) (λ f. n (omega arith)))

-- THE STARTS. Cell i of strip k starts where cell i of a strip does, whichever strip it is
pub start-in-strip : (start : ℕ → ℕ) (n k i : ℕ) → i < n → start_in start n (n * k + i) ≡ start i
unfolding start_in
start-in-strip start n k i h = ap start (place-mod n k i h)

-- what the first raise of cell c leaves in bit i
abbrev worn : ℕ → ℕ → ℕ
worn i c = get_or (raise (start_of c) (0 ∷ 0 ∷ 0 ∷ [])) i 0

-- of three neighbours one sets it
worn-once : (n i : ℕ) → i < 3 → worn i (3 * n) + worn i (3 * n + 1) + worn i (3 * n + 2) ≡ 1
unfolding start_of raise zero_from
worn-once n i h =
    let a : (3 * n) % 3 ≡ 0 = omega arith in
    let b : (3 * n + 1) % 3 ≡ 1 = omega arith in
    let c : (3 * n + 2) % 3 ≡ 2 = omega arith in
    rw (a, b, c) (each i h)
  where
    each : (i : ℕ) → i < 3
        → get_or (raise 0 (0 ∷ 0 ∷ 0 ∷ [])) i 0 + get_or (raise 1 (0 ∷ 0 ∷ 0 ∷ [])) i 0 + get_or (raise 2 (0 ∷ 0 ∷ 0 ∷ [])) i 0 ≡ 1
    each zero h = refl
    each (suc zero) h = refl
    each (suc (suc zero)) h = refl
    each (suc (suc (suc i))) h = absurd (let z : ⊥ = omega arith in z)

-- 'neighbouring bits worn evenly': where the cells 0 to 3·n − 1 are raised once each from level 0, each of the three bits is set n times
pub worn-evenly : (n i : ℕ) → i < 3 → sum_of (3 * n) (λ c. get_or (raise (start_of c) (0 ∷ 0 ∷ 0 ∷ [])) i 0) ≡ n
unfolding sum_of
worn-evenly zero i h = refl
worn-evenly (suc n) i h =
    let e : 3 * suc n ≡ suc (suc (suc (3 * n))) = omega arith in
    let x : suc (3 * n) ≡ 3 * n + 1 = omega arith in
    let y : suc (suc (3 * n)) ≡ 3 * n + 2 = omega arith in
    ap (λ (m : ℕ). sum_of m (worn i)) e
    ∙ omega (
      arith,
      sum_of-more (suc (suc (3 * n))) (worn i),
      sum_of-more (suc (3 * n)) (worn i),
      sum_of-more (3 * n) (worn i),
      ap (worn i) x,
      ap (worn i) y,
      worn-once n i h,
      worn-evenly n i h,
    )
