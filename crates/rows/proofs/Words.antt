-- THE CELLS OF A BLOCK as a word, three bits a cell: what the program's operations on words make of its bits and marks.
--   pair-packed              six bits of a word of cells are those of a stage's two cells
--   levels-packed            the sum of a word's three layers of bits is the word of its levels
--   kinds-packed             the levels and the marks make the word of the kinds
--   kind-less                a kind is three bits
use mathlib.Core.Path.{◌≡◌, refl, sym, ◌∙◌, ap, ap₂}
use Prim.Native.Nat.{ℕ, zero, suc, ◌+◌, ◌*◌, ◌/◌, ◌%◌, ◌^◌, ◌<◌, ◌≤◌}
use native.Mathlib.Omega.{arith}
use native.Mathlib.Nat.{mod-lt, mod-eq_of_lt, zero-lt-suc, zero-div}
use lib.Bits.{bit_and, bit_or, bit_xor, and_mask, and_le_r, and_lt, or_lt, xor_lt}
use lib.Pow.{shr-shr}
use Rattle.stages.specs.Stage.{pick}
use Rattle.rows.specs.Rows.{ones_of, cell_in, mark_in, second_in, cell_kind, packed_of}
use Rattle.rows.proofs.Digits.{packed-less, packed-times, packed-plus, packed-same}
use Rattle.rows.proofs.Cells.{cell-bit, cell-and, cell-or, cell-xor, cell-packed, word_cells, lowest, lowest-cell}

-- WORDS OF CELLS. 48 bits are packed from what its sixteen cells are
word-is : (word : ℕ) (g : ℕ → ℕ) → word < 2 ^ 48 → ((j : ℕ) → j < 16 → cell_in word j ≡ g j) → word ≡ packed_of 3 g 16
word-is word g h e = sym (mod-eq_of_lt h) ∙ sym (word_cells word 16) ∙ packed-same 3 _ g 16 e

-- a word of cells is 48 bits
cells-less : (f : ℕ → ℕ) → ((j : ℕ) → f j < 8) → packed_of 3 f 16 < 2 ^ 48
cells-less f less = packed-less 3 f less 16

-- the operations on words of cells
module _ (f g : ℕ → ℕ) (f-less : (j : ℕ) → f j < 8) (g_less : (j : ℕ) → g j < 8) where
  cells-and : bit_and (packed_of 3 f 16) (packed_of 3 g 16) ≡ packed_of 3 (λ j. bit_and (f j) (g j)) 16
  cells-and = word-is _ _ (and_lt 48 _ _ (cells-less f f-less) (cells-less g g_less))
      (λ j h. cell-and _ _ j ∙ ap₂ bit_and (cell-packed f f-less 16 j h) (cell-packed g g_less 16 j h))

  cells-or : bit_or (packed_of 3 f 16) (packed_of 3 g 16) ≡ packed_of 3 (λ j. bit_or (f j) (g j)) 16
  cells-or = word-is _ _ (or_lt 48 _ _ (cells-less f f-less) (cells-less g g_less))
      (λ j h. cell-or _ _ j ∙ ap₂ bit_or (cell-packed f f-less 16 j h) (cell-packed g g_less 16 j h))

  cells-xor : bit_xor (packed_of 3 f 16) (packed_of 3 g 16) ≡ packed_of 3 (λ j. bit_xor (f j) (g j)) 16
  cells-xor = word-is _ _ (xor_lt 48 _ _ (cells-less f f-less) (cells-less g g_less))
      (λ j h. cell-xor _ _ j ∙ ap₂ bit_xor (cell-packed f f-less 16 j h) (cell-packed g g_less 16 j h))

-- six bits of such a word are the two cells of stage i
pub pair-packed : (f : ℕ → ℕ) → ((j : ℕ) → f j < 8) → (i : ℕ) → i < 8
    → packed_of 3 f 16 / 2 ^ (6 * i) % 64 ≡ f (2 * i) + 8 * f (2 * i + 1)
unfolding cell_in
pair-packed f less i h =
    let x = packed_of 3 f 16 in
    let e : 6 * i ≡ 3 * (2 * i) = omega arith in
    let g : 3 * (2 * i) + 3 ≡ 3 * (2 * i + 1) = omega arith in
    let a : x / 2 ^ (3 * (2 * i)) % 8 ≡ f (2 * i) = cell-packed f less 16 (2 * i) (omega arith) in
    let b : x / 2 ^ (3 * (2 * i)) / 8 % 8 ≡ f (2 * i + 1) =
    ap (λ (k : ℕ). k % 8) (shr-shr x (3 * (2 * i)) 3 ∙ ap (λ (k : ℕ). x / 2 ^ k) g) ∙ cell-packed f less 16 (2 * i + 1) (omega arith) in
    ap (λ (k : ℕ). x / 2 ^ k % 64) e ∙ omega arith

-- the lowest bits are 48 bits
pub lowest-less : lowest < 2 ^ 48
lowest-less = cells-less (λ j. 1) (λ j. omega arith)

-- and so are those of a word of marks
pub mark-less : (marks j : ℕ) → mark_in marks j < 2 ^ 3
mark-less marks j = omega arith

-- LEVELS. The bit r of each cell, at the cell's lowest bit
layer : (bits r : ℕ) → r < 3 → bit_and (bits / 2 ^ r) lowest ≡ packed_of 3 (λ j. cell_in bits j / 2 ^ r % 2) 16
layer bits r h =
    word-is _ _ (omega (arith, and_le_r (bits / 2 ^ r) lowest, lowest-less))
    (λ j l.
    let x = bits / 2 ^ r in
    let z : cell_in x j / 2 ^ 0 ≡ cell_in x j = omega arith in
    let y : r + (3 * j + 0) ≡ 3 * j + r = omega arith in
    cell-and x lowest j ∙ ap (bit_and (cell_in x j)) (lowest-cell j l) ∙ and_mask (cell_in x j) 1
    ∙ ap (λ (k : ℕ). k % 2) (sym z) ∙ cell-bit x j 0 (omega arith)
    ∙ ap (λ (k : ℕ). k % 2) (shr-shr bits r (3 * j + 0) ∙ ap (λ (k : ℕ). bits / 2 ^ k) y)
    ∙ sym (cell-bit bits j r h))

-- a kind is three bits
pub kind-less : (bits marks j : ℕ) → cell_kind bits marks j < 8
unfolding cell_kind second_in ones_of
kind-less bits marks j = go (j % 2) (ones_of (cell_in bits j)) (mark_in marks j) (omega arith) (mod-lt _ (zero-lt-suc 1))
  where
    go : (p l m : ℕ) → l ≤ 3 → m < 2 → pick p (l + 4 * m) (pick m l (3 + 4 * ((1 + l) % 2))) < 8
    go zero l m h k = omega arith
    go (suc p) l zero h k = omega arith
    go (suc p) l (suc m) h k = omega arith

-- the levels are the kinds without a mark
level-kind : (bits j : ℕ) → cell_kind bits 0 j ≡ ones_of (cell_in bits j)
unfolding cell_kind second_in
level-kind bits j = rw (zero-div (2 ^ j)) (go (j % 2) (ones_of (cell_in bits j)))
  where
    go : (p l : ℕ) → pick p (l + 4 * 0) l ≡ l
    go zero l = omega arith
    go (suc p) l = refl

-- THE WORD OF THE LEVELS
pub levels-packed : (bits : ℕ) → bit_and bits lowest + bit_and (bits / 2) lowest + bit_and (bits / 4) lowest ≡ packed_of 3 (cell_kind bits 0) 16
unfolding ones_of
levels-packed bits =
    let z : bits / 2 ^ 0 ≡ bits = omega arith in
    ap₂ ◌+◌ (ap₂ ◌+◌ (ap (λ (x : ℕ). bit_and x lowest) (sym z) ∙ layer bits 0 (omega arith)) (layer bits 1 (omega arith)))
    (layer bits 2 (omega arith))
    ∙ ap (λ (x : ℕ). x + packed_of 3 (λ j. cell_in bits j / 2 ^ 2 % 2) 16) (packed-plus 3 _ _ 16)
    ∙ packed-plus 3 _ _ 16
    ∙ packed-same 3 _ (cell_kind bits 0) 16
    (λ j h. let y : cell_in bits j / 2 ^ 0 ≡ cell_in bits j = omega arith in rw y (sym (level-kind bits j)))

-- KINDS. One cell, by its level l, its mark m and whether it is a second one
kind-cell : (p l m : ℕ) → p < 2 → l < 4 → m < 2
    → bit_or l (3 * bit_and m p) + 4 * bit_xor m (bit_and (bit_and m p) l) ≡ pick p (l + 4 * m) (second_in l m)
unfolding second_in
kind-cell zero zero zero h i k = refl
kind-cell zero zero (suc zero) h i k = refl
kind-cell zero zero (suc (suc m)) h i k = absurd (let z : ⊥ = omega arith in z)
kind-cell zero (suc zero) zero h i k = refl
kind-cell zero (suc zero) (suc zero) h i k = refl
kind-cell zero (suc zero) (suc (suc m)) h i k = absurd (let z : ⊥ = omega arith in z)
kind-cell zero (suc (suc zero)) zero h i k = refl
kind-cell zero (suc (suc zero)) (suc zero) h i k = refl
kind-cell zero (suc (suc zero)) (suc (suc m)) h i k = absurd (let z : ⊥ = omega arith in z)
kind-cell zero (suc (suc (suc zero))) zero h i k = refl
kind-cell zero (suc (suc (suc zero))) (suc zero) h i k = refl
kind-cell zero (suc (suc (suc zero))) (suc (suc m)) h i k = absurd (let z : ⊥ = omega arith in z)
kind-cell zero (suc (suc (suc (suc l)))) m h i k = absurd (let z : ⊥ = omega arith in z)
kind-cell (suc zero) zero zero h i k = refl
kind-cell (suc zero) zero (suc zero) h i k = refl
kind-cell (suc zero) zero (suc (suc m)) h i k = absurd (let z : ⊥ = omega arith in z)
kind-cell (suc zero) (suc zero) zero h i k = refl
kind-cell (suc zero) (suc zero) (suc zero) h i k = refl
kind-cell (suc zero) (suc zero) (suc (suc m)) h i k = absurd (let z : ⊥ = omega arith in z)
kind-cell (suc zero) (suc (suc zero)) zero h i k = refl
kind-cell (suc zero) (suc (suc zero)) (suc zero) h i k = refl
kind-cell (suc zero) (suc (suc zero)) (suc (suc m)) h i k = absurd (let z : ⊥ = omega arith in z)
kind-cell (suc zero) (suc (suc (suc zero))) zero h i k = refl
kind-cell (suc zero) (suc (suc (suc zero))) (suc zero) h i k = refl
kind-cell (suc zero) (suc (suc (suc zero))) (suc (suc m)) h i k = absurd (let z : ⊥ = omega arith in z)
kind-cell (suc zero) (suc (suc (suc (suc l)))) m h i k = absurd (let z : ⊥ = omega arith in z)
kind-cell (suc (suc p)) l m h i k = absurd (let z : ⊥ = omega arith in z)

-- the words of the second cells
abbrev pub seconds : ℕ
seconds = packed_of 3 (λ j. j % 2) 16

-- are 48 bits
pub seconds-less : seconds < 2 ^ 48
seconds-less = cells-less (λ j. j % 2) (λ j. omega arith)

-- and so is a word of kinds
pub kinds-less : (bits marks : ℕ) {kinds : ℕ} → kinds ≡ packed_of 3 (cell_kind bits marks) 16 → kinds < 2 ^ 48
kinds-less bits marks e = rw e (cells-less (cell_kind bits marks) (kind-less bits marks))

-- or of marks
pub marks-less : (marks : ℕ) {marked : ℕ} → marked ≡ packed_of 3 (mark_in marks) 16 → marked < 2 ^ 48
marks-less marks e = rw e (cells-less (mark_in marks) (mark-less marks))

-- THE WORD OF THE KINDS
pub kinds-packed : (bits marks levels marked : ℕ) → levels ≡ packed_of 3 (cell_kind bits 0) 16 → marked ≡ packed_of 3 (mark_in marks) 16
    → bit_or levels (3 * bit_and marked seconds) + 4 * bit_xor marked (bit_and (bit_and marked seconds) levels)
    ≡ packed_of 3 (cell_kind bits marks) 16
unfolding cell_kind ones_of
kinds-packed bits marks levels marked e f =
    ap₂ ◌+◌ (ap₂ bit_or e three ∙ cells-or l (λ j. 3 * s j) (kind-less bits 0) (λ j. omega (arith, s_less j)))
    (ap (λ (x : ℕ). 4 * x)
    (ap₂ bit_xor f (ap₂ bit_and second e ∙ cells-and s l s-cell (kind-less bits 0)) ∙ cells-xor m (λ j. bit_and (s j) (l j)) m-cell both)
    ∙ packed-times 3 4 _ 16)
    ∙ packed-plus 3 _ _ 16
    ∙ packed-same 3 _ (cell_kind bits marks) 16 each
  where
    l : ℕ → ℕ
    l = cell_kind bits 0

    m : ℕ → ℕ
    m = mark_in marks

    s : ℕ → ℕ
    s j = bit_and (m j) (j % 2)

    m-less : (j : ℕ) → m j < 2
    m-less j = mod-lt _ (zero-lt-suc 1)

    p-less : (j : ℕ) → j % 2 < 2
    p-less j = mod-lt _ (zero-lt-suc 1)

    s_less : (j : ℕ) → s j < 2
    s_less j = and_lt 1 (m j) (j % 2) (m-less j) (p-less j)

    m-cell : (j : ℕ) → m j < 8
    m-cell = mark-less marks

    s-cell : (j : ℕ) → s j < 8
    s-cell j = omega (arith, s_less j)

    both : (j : ℕ) → bit_and (s j) (l j) < 8
    both j = and_lt 3 (s j) (l j) (s-cell j) (kind-less bits 0 j)

    second : bit_and marked seconds ≡ packed_of 3 s 16
    second = ap (λ (x : ℕ). bit_and x seconds) f ∙ cells-and m (λ j. j % 2) m-cell (λ j. omega (arith, p-less j))

    three : 3 * bit_and marked seconds ≡ packed_of 3 (λ j. 3 * s j) 16
    three = ap (λ (x : ℕ). 3 * x) second ∙ packed-times 3 3 s 16

    ones-le : (x : ℕ) → ones_of x < 4
    ones-le x = omega arith

    each : (j : ℕ) → j < 16 → bit_or (l j) (3 * s j) + 4 * bit_xor (m j) (bit_and (s j) (l j)) ≡ cell_kind bits marks j
    each j h = rw (level-kind bits j) (kind-cell (j % 2) (ones_of (cell_in bits j)) (m j) (p-less j) (ones-le _) (m-less j))
