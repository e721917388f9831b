-- WORDS OF CELLS, three bits a cell: what the operations on words do to each cell.
--   cell-bit              the bits of a cell of a word; its operations work on each cell apart (cell-and, cell-or, cell-xor)
--   cell-less, cell-past  a cell is three bits, and past the last there is none
--   cell-packed           a cell of a word that is packed from cells; every word is (word_cells)
--   lowest                the lowest bit of each of sixteen cells, and a cell of it (lowest-cell)
use mathlib.Core.Path.{◌≡◌, ◌∙◌, ap}
use Prim.Native.Nat.{ℕ, ◌+◌, ◌*◌, ◌/◌, ◌%◌, ◌^◌, ◌<◌, ◌≤◌}
use native.Mathlib.Omega.{arith}
use native.Mathlib.Nat.{mod-lt, div-eq_of_lt, mul-le-mul_left, zero-lt-suc}
use lib.Bits.{bit_and, bit_or, bit_xor, and_shr, and_mod, or_shr, or_mod, xor_shr, xor_mod}
use lib.Pow.{pow_mono, shr-shr}
use Rattle.codes.proofs.Taps.{low_bit}
use Rattle.rows.specs.Rows.{packed_of, cell_in}
use Rattle.rows.proofs.Digits.{packed-at, packed-self}

-- the bits of a cell are three of the word's
pub cell-bit : (word j r : ℕ) → r < 3 → cell_in word j / 2 ^ r % 2 ≡ word / 2 ^ (3 * j + r) % 2
unfolding cell_in
cell-bit word j r h = low_bit 3 r (word / 2 ^ (3 * j)) h ∙ ap (λ (y : ℕ). y % 2) (shr-shr word (3 * j) r)

-- a cell is three bits
pub cell-less : (word j : ℕ) → cell_in word j < 8
unfolding cell_in
cell-less word j = mod-lt _ (zero-lt-suc 7)

-- past the sixteenth cell of 48 bits there is none
pub cell-past : (word j : ℕ) → word < 2 ^ 48 → 16 ≤ j → cell_in word j ≡ 0
unfolding cell_in
cell-past word j h l =
    let m : 48 ≤ 3 * j = mul-le-mul_left 3 l in
    ap (λ (y : ℕ). y % 8) (div-eq_of_lt (omega (arith, pow_mono m)))

-- the operations on words work on each cell apart
module _ (a b j : ℕ) where
  pub cell-and : cell_in (bit_and a b) j ≡ bit_and (cell_in a j) (cell_in b j)
  unfolding cell_in
  cell-and = ap (λ (y : ℕ). y % 8) (and_shr a b (3 * j)) ∙ and_mod (a / 2 ^ (3 * j)) (b / 2 ^ (3 * j)) 3

  pub cell-or : cell_in (bit_or a b) j ≡ bit_or (cell_in a j) (cell_in b j)
  unfolding cell_in
  cell-or = ap (λ (y : ℕ). y % 8) (or_shr a b (3 * j)) ∙ or_mod (a / 2 ^ (3 * j)) (b / 2 ^ (3 * j)) 3

  pub cell-xor : cell_in (bit_xor a b) j ≡ bit_xor (cell_in a j) (cell_in b j)
  unfolding cell_in
  cell-xor = ap (λ (y : ℕ). y % 8) (xor_shr a b (3 * j)) ∙ xor_mod (a / 2 ^ (3 * j)) (b / 2 ^ (3 * j)) 3

-- cell j of a word that is packed from cells
pub cell-packed : (f : ℕ → ℕ) → ((i : ℕ) → f i < 8) → (n j : ℕ) → j < n → cell_in (packed_of 3 f n) j ≡ f j
unfolding cell_in
cell-packed f less n j h = packed-at 3 f less n j h

-- a word is packed from its cells
pub word_cells : (word n : ℕ) → packed_of 3 (cell_in word) n ≡ word % 2 ^ (3 * n)
unfolding cell_in
word_cells word n = packed-self 3 word n

-- the lowest bit of each of sixteen cells
abbrev pub lowest : ℕ
lowest = packed_of 3 (λ j. 1) 16

-- a cell of it
pub lowest-cell : (j : ℕ) → j < 16 → cell_in lowest j ≡ 1
lowest-cell j h = cell-packed (λ i. 1) (λ i. omega arith) 16 j h
