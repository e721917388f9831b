-- Cells that no longer move: a map of them, and what an erase leaves.
--   marks_in bits c       whether cell c is marked
--   emptied marks page    the page with every cell emptied that is not marked
--   kept_bit, kept_byte   a byte of it, by the byte of the page and that of the map
use Rattle.std.specs.Prelude.{Bool, cond, List, ℕ, ◌+◌, ◌*◌, ◌/◌, ◌%◌, ◌^◌, eqb, length}
use Rattle.cells.specs.Places.{from_bits}
use Rattle.cells.specs.Bytes.{bit_of, bytes_of}

-- 'A map with one bit for each cell of the page (strip by strip, .. bits numbered as in document 01, a one marks the cell)' (document 02,
-- K3); past its end no cell is marked
unfoldable pub marks_in : List ℕ → ℕ → Bool
marks_in bits c = eqb (bit_of bits c) 1

-- 'An erase empties every other cell and leaves the marked ones' bits': bit k of a page is a bit of cell k div 3
unfoldable pub emptied : (ℕ → Bool) → List ℕ → List ℕ
emptied marks page = bytes_of (length page) (λ k. cond (marks (k / 3)) (bit_of page k) 0)

-- three bytes of a page have the bits of eight cells, which one byte of the map marks: bit j of byte number `third` of the three where its
-- cell is marked, and else 0
unfoldable pub kept_bit : ℕ → ℕ → ℕ → ℕ → ℕ
kept_bit byte marked third j = cond (eqb ((marked / 2 ^ ((8 * third + j) / 3)) % 2) 1) ((byte / 2 ^ j) % 2) 0

-- the byte of these bits
unfoldable pub kept_byte : ℕ → ℕ → ℕ → ℕ
kept_byte byte marked third = from_bits 8 (kept_bit byte marked third)
