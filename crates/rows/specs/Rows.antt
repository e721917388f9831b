-- THE ROWS of one bit a cell, two cells a stage: the row of prices that a stage picks. The KIND of a cell is its level, and 4 more where
-- it is marked.
--   cell_in word j                    cell j of a word, three bits a cell
--   cell_kind bits marks j            cell j of a block in a row
--   stage_row bits marks labels i     the row of stage i of a block
--   bits_at strip q, marks_at map q   the 48 bits of block q, and its 16 marks
--   packed_of w f n                   n digits of w bits each as one number
use Rattle.std.specs.Prelude.{List, ℕ, zero, suc, ◌+◌, ◌-◌, ◌*◌, ◌/◌, ◌%◌, ◌^◌, get_or}
use Rattle.stages.specs.Stage.{pick}

-- the ones of three bits
unfoldable pub ones_of : ℕ → ℕ
ones_of x = x % 2 + x / 2 % 2 + x / 4 % 2

-- cell j of a word of three bits a cell, the first cell worth least
unfoldable pub cell_in : ℕ → ℕ → ℕ
cell_in word j = word / 2 ^ (3 * j) % 8

-- the mark of cell j of a block
abbrev pub mark_in : ℕ → ℕ → ℕ
mark_in marks j = marks / 2 ^ j % 2

-- a second cell at level l in a row: a marked one is as one at level 3, which can be raised no more, and 4 more where it shows 0: then the
-- other bit is asked of it, by the label
unfoldable pub second_in : (l mark : ℕ) → ℕ
second_in l mark = pick mark l (3 + 4 * ((1 + l) % 2))

-- cell j of a block, by the block's 48 bits and its 16 marks: the kind of a first cell, or a second one
unfoldable pub cell_kind : (bits marks j : ℕ) → ℕ
cell_kind bits marks j =
    pick (j % 2) (ones_of (cell_in bits j) + 4 * mark_in marks j) (second_in (ones_of (cell_in bits j)) (mark_in marks j))

-- the row of stage i of a block: its two cells, and its label, the first stage's worth most. A label too many falls out: rows are counted
-- round
unfoldable pub stage_row : (bits marks labels i : ℕ) → ℕ
stage_row bits marks labels i = cell_kind bits marks (2 * i) + 8 * cell_kind bits marks (2 * i + 1) + labels / 2 ^ (7 - i) % 2 * 32

-- the 48 bits of block q: six bytes of the strip
unfoldable pub bits_at : List ℕ → ℕ → ℕ
bits_at strip q =
    get_or strip (6 * q) 0 + get_or strip (6 * q + 1) 0 * 256 + get_or strip (6 * q + 2) 0 * 65536 + get_or strip (6 * q + 3) 0 * 16777216
    + get_or strip (6 * q + 4) 0 * 4294967296 + get_or strip (6 * q + 5) 0 * 1099511627776

-- the 16 marks of block q: two bytes of the strip's part of the map
unfoldable pub marks_at : List ℕ → ℕ → ℕ
marks_at map q = get_or map (2 * q) 0 + get_or map (2 * q + 1) 0 * 256

-- the digits f of w bits each, the first worth least
unfoldable pub packed_of : ℕ → (ℕ → ℕ) → ℕ → ℕ
packed_of w f zero = 0
packed_of w f (suc n) = packed_of w f n + f n * 2 ^ (w * n)
