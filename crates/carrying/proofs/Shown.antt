-- WHAT A BLOCK SHOWS: the program's word of a block has each cell raised that does not show what is wanted of it.
--   shown-bit                what is shown of a cell is the bits of the cell raised
--   others                   the bits of each cell but the lowest, and the starts of sixteen cells (start_words)
--   onward-moves             how the program moves marks
--   low-cell, high-cell      the bits that are wanted of the two cells of a stage; those of a block are a word of bits (wanted-cells)
--   raises-cell              which cells the program raises, a word of 48 bits (raises-less)
--   shown-cells              so the block that it makes shows what is wanted
use mathlib.Core.Path.{◌≡◌, refl, sym, ◌∙◌, ap, ap₂}
use mathlib.Core.Logic.{⊎_elim}
use mathlib.Core.Bool.{Bool, true, false}
use mathlib.Core.List.{List, [], ◌∷◌}
use Prim.Native.Nat.{ℕ, zero, suc, ◌+◌, ◌*◌, ◌-◌, ◌/◌, ◌%◌, ◌^◌, ◌<◌, ◌≤◌}
use native.Mathlib.Omega.{arith}
use native.Mathlib.Nat.{mod-lt, mod-eq_of_lt, zero-lt-suc}
use lib.Bits.{bit_and, bit_or, bit_xor, and_mask, xor_lt, xor_add_and, and_le_r}
use lib.Dec.{ltb}
use lib.ListN.{get_or}
use lib.Pow.{shr-shr, mod-mod-pow}
use borrow.Author.Tests.{ltb-true, ltb-false}
use Rattle.cells.specs.Places.{from_bits}
use Rattle.cells.specs.Raising.{start_of, zero_from, raise, raised_times}
use Rattle.cells.proofs.Places.{same?}
use Rattle.cells.proofs.Bytes.{number_bit, cases8}
use Rattle.cells.proofs.Raising.{raised-bit}
use Rattle.codes.proofs.Taps.{low_bit}
use Rattle.codes.proofs.Divisions.{xor-bit}
use Rattle.rows.specs.Rows.{ones_of, packed_of, cell_in}
use Rattle.carrying.specs.Carrying.{shown_cell, wanted_pair, wanted_bits, CellBits, Onward, BlockShown}
use Rattle.rows.proofs.Digits.{packed-fits, packed-bits, packed-times}
use Rattle.rows.proofs.Cells.{cell-less, cell-past, cell-and, cell-or, cell-xor, cell-packed, word_cells, lowest, lowest-cell}

-- WHAT IS SHOWN of a cell, by its three bits
abbrev pub three_bits : ℕ → List ℕ
three_bits x = x % 2 ∷ x / 2 % 2 ∷ x / 4 % 2 ∷ []

-- is the bits of the cell raised
pub shown-bit : (s x v r : ℕ) → r < 3 → shown_cell s x v / 2 ^ r % 2 ≡ get_or (raised_times s ((ones_of x + v) % 2) (three_bits x)) r 0
unfolding shown_cell
shown-bit s x v r h = number_bit 3 _ (λ i l. raised-bit s ((ones_of x + v) % 2) (bit x) (bit (x / 2)) (bit (x / 4)) i) r h
  where
    bit : (y : ℕ) → y % 2 < 2
    bit y = mod-lt y (zero-lt-suc 1)

-- a word of bits, times seven: three ones in each cell that has a one
cell-seven : (word : ℕ) → CellBits word → (j : ℕ) → j < 16 → cell_in (7 * word) j ≡ 7 * cell_in word j
cell-seven word w j h =
    ap (λ (x : ℕ). cell_in (7 * x) j) (sym (word_cells word 16 ∙ mod-eq_of_lt w.less))
    ∙ ap (λ (x : ℕ). cell_in x j) (packed-times 3 7 (cell_in word) 16)
    ∙ cell-packed (λ i. 7 * cell_in word i) (λ i. omega (arith, w.bit i)) 16 j h

-- 48 bits are such a word where each of the sixteen cells is 0 or 1
bit-each : (word : ℕ) → word < 2 ^ 48 → ((j : ℕ) → j < 16 → cell_in word j ≤ 1) → CellBits word
bit-each word less bits = record { less = less; bit = λ j. go j (ltb j 16) refl }
  where
    go : (j : ℕ) (b : Bool) → ltb j 16 ≡ b → cell_in word j ≤ 1
    go j true e = bits j (ltb-true j 16 e)
    go j false e = omega (arith, cell-past word j less (ltb-false j 16 e))

-- THE PROGRAM'S WORDS: the two other bits of each of sixteen cells
abbrev pub others : ℕ
others = packed_of 3 (λ j. 6) 16

-- the starts of sixteen cells where the first one's is bit s, and the three words of them
abbrev starts_from : ℕ → ℕ
starts_from s = packed_of 3 (λ j. 2 ^ ((s + j) % 3)) 16

abbrev start_words : List ℕ
start_words = starts_from 0 ∷ starts_from 1 ∷ starts_from 2 ∷ []

-- a cell of each
others-cell : (j : ℕ) → j < 16 → cell_in others j ≡ 6
others-cell j h = cell-packed (λ i. 6) (λ i. omega arith) 16 j h

start_small : (i : ℕ) → 2 ^ (i % 3) < 8
start_small i = go (i % 3) (mod-lt i (zero-lt-suc 2))
  where
    go : (r : ℕ) → r < 3 → 2 ^ r < 8
    go zero h = omega arith
    go (suc zero) h = omega arith
    go (suc (suc zero)) h = omega arith
    go (suc (suc (suc r))) h = absurd (let z : ⊥ = omega arith in z)

starts-cell : (s j : ℕ) → s < 3 → j < 16 → cell_in (get_or start_words s 0) j ≡ 2 ^ ((s + j) % 3)
starts-cell s j h l = ap (λ (x : ℕ). cell_in x j) (go s h) ∙ cell-packed (λ i. 2 ^ ((s + i) % 3)) (λ i. start_small (s + i)) 16 j l
  where
    go : (s : ℕ) → s < 3 → get_or start_words s 0 ≡ starts_from s
    go zero h = refl
    go (suc zero) h = refl
    go (suc (suc zero)) h = refl
    go (suc (suc (suc s))) h = absurd (let z : ⊥ = omega arith in z)

-- shifts can be made in either order
shifts : (x i k : ℕ) → x / 2 ^ i / 2 ^ k ≡ x / 2 ^ k / 2 ^ i
shifts x i k = let e : i + k ≡ k + i = omega arith in shr-shr x i k ∙ ap (λ (n : ℕ). x / 2 ^ n) e ∙ sym (shr-shr x k i)

-- MARKS. Three bits without the lowest
without-lowest : (y : ℕ) → y < 8 → bit_and y 6 ≡ y / 2 * 2
without-lowest = cases8 (λ (y : ℕ). bit_and y 6 ≡ y / 2 * 2) refl refl refl refl refl refl refl refl

-- and moved to the bit above
bit-or-low : (y : ℕ) → y < 8 → bit_or (y * 2 % 8) (y / 4) ≡ y * 2 % 8 + y / 4
bit-or-low = cases8 (λ (y : ℕ). bit_or (y * 2 % 8) (y / 4) ≡ y * 2 % 8 + y / 4) refl refl refl refl refl refl refl refl

module _ (marks j : ℕ) (h : j < 16) where
  -- each mark one bit up, where that is in its cell
  moved_up : cell_in (bit_and (marks * 2) others) j ≡ cell_in marks j * 2 % 8
  unfolding cell_in
  moved_up =
      let y = marks * 2 / 2 ^ (3 * j) in
      let d : marks * 2 / 2 ≡ marks = omega arith in
      let half : y / 2 ≡ marks / 2 ^ (3 * j) = shifts (marks * 2) (3 * j) 1 ∙ ap (λ (x : ℕ). x / 2 ^ (3 * j)) d in
      cell-and (marks * 2) others j ∙ ap (bit_and (y % 8)) (others-cell j h) ∙ without-lowest (y % 8) (mod-lt y (zero-lt-suc 7))
      ∙ omega arith

  -- and from the highest bit to the lowest
  moved-round : cell_in (bit_and (marks / 4) lowest) j ≡ cell_in marks j / 4
  unfolding cell_in
  moved-round =
      let quarter : marks / 4 / 2 ^ (3 * j) ≡ marks / 2 ^ (3 * j) / 4 = shifts marks 2 (3 * j) in
      cell-and (marks / 4) lowest j ∙ ap (bit_and (marks / 4 / 2 ^ (3 * j) % 8)) (lowest-cell j h)
      ∙ and_mask (marks / 4 / 2 ^ (3 * j) % 8) 1
      ∙ omega arith

-- so the program moves marks
pub onward-moves : (marks : ℕ) → Onward marks (bit_or (bit_and (marks * 2) others) (bit_and (marks / 4) lowest))
onward-moves marks = record {
  moved = λ j h.
      cell-or _ _ j ∙ ap₂ bit_or (moved_up marks j h) (moved-round marks j h) ∙ bit-or-low (cell_in marks j) (cell-less marks j);
}

-- WHAT IS WANTED of the two cells of a stage are bits
pub pair_small : (first second i : ℕ) → wanted_pair first second i < 64
pair_small first second i =
    let a : first / 2 ^ (7 - i) % 2 < 2 = mod-lt _ (zero-lt-suc 1) in
    let b : second / 2 ^ (7 - i) % 2 < 2 = mod-lt _ (zero-lt-suc 1) in
    omega arith

module _ (first second i : ℕ) (h : i < 8) where
  -- the first cell's
  pub low-cell : cell_in (wanted_bits first second 8) (2 * i) ≡ first / 2 ^ (7 - i) % 2
  unfolding cell_in
  low-cell =
      let e : 3 * (2 * i) ≡ 6 * i + 0 = omega arith in
      let a : first / 2 ^ (7 - i) % 2 < 2 = mod-lt _ (zero-lt-suc 1) in
      let f : wanted_pair first second i / 1 ≡ wanted_pair first second i = omega arith in
      ap (λ (k : ℕ). wanted_bits first second 8 / 2 ^ k % 8) e
      ∙ packed-bits 6 (wanted_pair first second) (pair_small first second) 8 i 0 3 h (omega arith)
      ∙ ap (λ (x : ℕ). x % 8) f ∙ omega arith

  -- and the second's
  pub high-cell : cell_in (wanted_bits first second 8) (2 * i + 1) ≡ second / 2 ^ (7 - i) % 2
  unfolding cell_in
  high-cell =
      let e : 3 * (2 * i + 1) ≡ 6 * i + 3 = omega arith in
      let a : first / 2 ^ (7 - i) % 2 < 2 = mod-lt _ (zero-lt-suc 1) in
      let b : second / 2 ^ (7 - i) % 2 < 2 = mod-lt _ (zero-lt-suc 1) in
      ap (λ (k : ℕ). wanted_bits first second 8 / 2 ^ k % 8) e
      ∙ packed-bits 6 (wanted_pair first second) (pair_small first second) 8 i 3 3 h (omega arith)
      ∙ omega arith

-- so they are a word of bits
pub wanted-cells : (first second : ℕ) → CellBits (wanted_bits first second 8)
wanted-cells first second = bit-each (wanted_bits first second 8) fits bit
  where
    fits : wanted_bits first second 8 < 2 ^ 48
    fits = packed-fits 6 (wanted_pair first second) (pair_small first second) 8 8 (omega arith)

    small : (x : ℕ) → x % 2 ≤ 1
    small x = omega arith

    bit : (j : ℕ) → j < 16 → cell_in (wanted_bits first second 8) j ≤ 1
    bit j l =
        let h : j / 2 < 8 = omega arith in
        ⊎_elim
        (λ z.
        let d : j ≡ 2 * (j / 2) = omega arith in
        rw (d, low-cell first second (j / 2) h) (small _))
        (λ z.
        let d : j ≡ 2 * (j / 2) + 1 = omega arith in
        rw (d, high-cell first second (j / 2) h) (small _))
        (same? (j % 2) 0)

-- RAISES. Two bits without a carry
differ-bits : (a b : ℕ) → a ≤ 1 → b ≤ 1 → bit_xor a b ≡ (a + b) % 2
differ-bits a b h l = omega (arith, xor_add_and a b, xor_lt 1 a b (omega arith) (omega arith))

-- three bits are added without a carry
three-differ : (x : ℕ) → ((x % 2 + x / 2 % 2) % 2 + x / 4 % 2) % 2 ≡ ones_of (x % 8) % 2
unfolding ones_of
three-differ x =
    let a : x % 8 % 2 ≡ x % 2 = omega arith in
    let b : x % 8 / 2 % 2 ≡ x / 2 % 2 = low_bit 3 1 x (omega arith) in
    let c : x % 8 / 4 % 2 ≡ x / 4 % 2 = low_bit 3 2 x (omega arith) in
    rw (a, b, c) (sums (x % 2) (x / 2 % 2) (x / 4 % 2))
  where
    sums : (a b c : ℕ) → ((a + b) % 2 + c) % 2 ≡ (a + b + c) % 2
    sums a b c = omega arith

module _ (bits wanted : ℕ) where
  -- a bit for each cell that shows another bit than is wanted of it
  abbrev raises : ℕ
  raises = bit_xor (bit_and (bit_xor (bit_xor bits (bits / 2)) (bits / 4)) lowest) wanted

  -- the bit that cell j shows
  shows-cell : (j : ℕ) → j < 16 → cell_in (bit_and (bit_xor (bit_xor bits (bits / 2)) (bits / 4)) lowest) j ≡ ones_of (cell_in bits j) % 2
  unfolding cell_in
  shows-cell j h =
      let p = 3 * j in
      let x = bits / 2 ^ p in
      let z = bit_xor (bit_xor bits (bits / 2)) (bits / 4) in
      let half : bits / 2 / 2 ^ p ≡ x / 2 = shifts bits 1 p in
      let quarter : bits / 4 / 2 ^ p ≡ x / 4 = shifts bits 2 p in
      cell-and z lowest j ∙ ap (bit_and (z / 2 ^ p % 8)) (lowest-cell j h) ∙ and_mask (z / 2 ^ p % 8) 1
      ∙ mod-mod-pow (z / 2 ^ p) 2 1
      ∙ xor-bit (bit_xor bits (bits / 2)) (bits / 4) p
      ∙ ap₂ (λ (a b : ℕ). (a + b % 2) % 2) (xor-bit bits (bits / 2) p ∙ ap (λ (b : ℕ). (x % 2 + b % 2) % 2) half) quarter
      ∙ three-differ x

  module _ (w : CellBits wanted) where
    -- so cell j is raised where it differs from the one that is wanted
    raises-cell : (j : ℕ) → j < 16 → cell_in raises j ≡ (ones_of (cell_in bits j) + cell_in wanted j) % 2
    raises-cell j h =
        cell-xor _ wanted j ∙ ap (λ (n : ℕ). bit_xor n (cell_in wanted j)) (shows-cell j h)
        ∙ differ-bits (ones_of (cell_in bits j) % 2) (cell_in wanted j) (omega arith) (w.bit j)
        ∙ omega arith

    -- they are 48 bits
    pub raises-less : raises < 2 ^ 48
    unfolding packed_of
    raises-less =
        let z = bit_and (bit_xor (bit_xor bits (bits / 2)) (bits / 4)) lowest in
        xor_lt 48 z wanted (omega (arith, and_le_r (bit_xor (bit_xor bits (bits / 2)) (bits / 4)) lowest)) w.less

    -- a word of bits
    raises-cells : CellBits raises
    raises-cells =
        bit-each raises raises-less
        (λ j h. rw (raises-cell j h) (let z : (ones_of (cell_in bits j) + cell_in wanted j) % 2 ≤ 1 = omega arith in z))

-- THE MARKS of a cell with the bits x that starts at bit s, where n says whether it is raised: the first, and what it leads to
abbrev marked : (s n : ℕ) → ℕ
marked s n = bit_and (7 * n) (2 ^ s)

abbrev next : ℕ → ℕ
next m = m * 2 % 8 + m / 4

-- the cell after it
abbrev risen : (s n x : ℕ) → ℕ
risen s n x = bit_or (bit_or (bit_or x (marked s n)) (next (bit_and x (marked s n)))) (next (bit_and x (next (bit_and x (marked s n)))))

-- is the cell raised where it does not show the bit v
abbrev Right : ℕ → ℕ → ℕ → Type 0
Right s v x = risen s ((ones_of x + v) % 2) x ≡ shown_cell s x v

-- in each of the 48 cases
each-risen : (s v : ℕ) → s < 3 → v ≤ 1 → (x : ℕ) → x < 8 → Right s v x
unfolding shown_cell ones_of from_bits raised_times raise zero_from
each-risen zero zero h k = cases8 (Right 0 0) refl refl refl refl refl refl refl refl
each-risen zero (suc zero) h k = cases8 (Right 0 1) refl refl refl refl refl refl refl refl
each-risen zero (suc (suc v)) h k = absurd (let z : ⊥ = omega arith in z)
each-risen (suc zero) zero h k = cases8 (Right 1 0) refl refl refl refl refl refl refl refl
each-risen (suc zero) (suc zero) h k = cases8 (Right 1 1) refl refl refl refl refl refl refl refl
each-risen (suc zero) (suc (suc v)) h k = absurd (let z : ⊥ = omega arith in z)
each-risen (suc (suc zero)) zero h k = cases8 (Right 2 0) refl refl refl refl refl refl refl refl
each-risen (suc (suc zero)) (suc zero) h k = cases8 (Right 2 1) refl refl refl refl refl refl refl refl
each-risen (suc (suc zero)) (suc (suc v)) h k = absurd (let z : ⊥ = omega arith in z)
each-risen (suc (suc (suc s))) v h k = absurd (let z : ⊥ = omega arith in z)

-- A BLOCK so made: the first marks, on the starts of the cells that are raised
abbrev first_marks : (q bits wanted : ℕ) → ℕ
first_marks q bits wanted = bit_and (7 * raises bits wanted) (get_or start_words (q % 3) 0)

module _ (q bits wanted : ℕ) (w : CellBits wanted) {second third : ℕ} (a : Onward (bit_and bits (first_marks q bits wanted)) second)
    (b : Onward (bit_and bits second) third) where
  module _ (j : ℕ) (h : j < 16) where
    -- cell j, whether it is raised, and its start
    abbrev own : ℕ
    own = cell_in bits j

    abbrev rises : ℕ
    rises = (ones_of own + cell_in wanted j) % 2

    abbrev start : ℕ
    start = (16 * q + j) % 3

    -- the first marks
    first_cell : cell_in (first_marks q bits wanted) j ≡ marked start rises
    first_cell =
        let e : (q % 3 + j) % 3 ≡ start = omega arith in
        cell-and (7 * raises bits wanted) (get_or start_words (q % 3) 0) j
        ∙ ap₂ bit_and
        (cell-seven (raises bits wanted) (raises-cells bits wanted w) j h ∙ ap (λ (k : ℕ). 7 * k) (raises-cell bits wanted w j h))
        (starts-cell (q % 3) j (mod-lt q (zero-lt-suc 2)) h ∙ ap (λ (k : ℕ). 2 ^ k) e)

    -- where they met a one
    second-cell : cell_in second j ≡ next (bit_and own (marked start rises))
    second-cell = a.moved j h ∙ ap next (cell-and bits (first_marks q bits wanted) j ∙ ap (bit_and own) first_cell)

    -- and a one again
    third-cell : cell_in third j ≡ next (bit_and own (next (bit_and own (marked start rises))))
    third-cell = b.moved j h ∙ ap next (cell-and bits second j ∙ ap (bit_and own) second-cell)

  -- it shows what is wanted of it
  pub shown-cells : BlockShown q bits wanted (bit_or (bit_or (bit_or bits (first_marks q bits wanted)) second) third)
  unfolding start_of
  shown-cells = record {
    cells = λ j h.
        cell-or (bit_or (bit_or bits (first_marks q bits wanted)) second) third j
        ∙ ap₂ bit_or
        (cell-or (bit_or bits (first_marks q bits wanted)) second j
        ∙ ap₂ bit_or (cell-or bits (first_marks q bits wanted) j ∙ ap (bit_or (cell_in bits j)) (first_cell j h)) (second-cell j h))
        (third-cell j h)
        ∙ each-risen (start j h) (cell_in wanted j) (mod-lt (16 * q + j) (zero-lt-suc 2)) (w.bit j) (cell_in bits j) (cell-less bits j);
  }
