-- What the program does from the first stage to the last: it raises the cells that the digits want raised, eight stages at a time.
--   digit_in digits t             the digit of stage t: eight a byte, the first worth most
--   wanted_first, wanted_second   the bits that the digits want of a stage's cells
--   carried_to                    the level of each cell after the digits are carried out
--   shown_cell                    the bits of a cell that is to show a given bit
--   CellBits word                 a word with one bit for each cell
--   wanted_bits                   the bits that are wanted of the cells of a block, as such a word
--   Onward                        marks on bits of cells, each moved to the next bit
--   BlockShown                    the word of a block whose cells show what is wanted
--   with_bits                     a strip with these bits in a block
--   CarryRequires                 what carrying out asks
use Rattle.std.specs.Prelude.{◌≡◌, List, [], ◌∷◌, ℕ, suc, ◌+◌, ◌-◌, ◌*◌, ◌/◌, ◌%◌, ◌^◌, ◌<◌, ◌≤◌, length, get_or, set}
use Rattle.cells.specs.Places.{from_bits}
use Rattle.cells.specs.Levels.{level}
use Rattle.cells.specs.Raising.{start_of, raised_times}
use Rattle.codes.specs.Generators.{Generators, g2}
use Rattle.codes.specs.Layouts.{one_bit, byte_count}
use Rattle.codes.specs.Taps.{taps_of, parity_of, window_of}
use Rattle.codes.specs.Blocks.{label_at}
use Rattle.stages.specs.Stage.{pick}
use Rattle.rows.specs.Rows.{ones_of, cell_in, packed_of}

-- the digit of stage t
unfoldable pub digit_in : List ℕ → ℕ → ℕ
digit_in digits t = get_or digits (t / 8) 0 / 2 ^ (7 - t % 8) % 2

-- the bit that the digits u want of the first cell of stage t, by the last digits up to its own
unfoldable pub wanted_first : Generators → (ℕ → ℕ) → ℕ → ℕ
wanted_first G u t = parity_of (taps_of G.memory G.g1) (window_of (suc G.memory) u (suc t))

-- and of the second: the label added
unfoldable pub wanted_second : Generators → List ℕ → (ℕ → ℕ) → ℕ → ℕ
wanted_second G content u t = (parity_of (taps_of G.memory (g2 G)) (window_of (suc G.memory) u (suc t)) + label_at G content t) % 2

-- the bit that is wanted of cell c
unfoldable pub wanted_of : Generators → List ℕ → (ℕ → ℕ) → ℕ → ℕ
wanted_of G content u c = pick (c % 2) (wanted_first G u (c / 2)) (wanted_second G content u (c / 2))

-- the level of cell c after it: one more where it does not show the bit that is wanted
unfoldable pub carried_to : Generators → List ℕ → List ℕ → (ℕ → ℕ) → ℕ → ℕ
carried_to G strip content u c = level strip c + (level strip c + wanted_of G content u c) % 2

-- the three bits x of a cell that is to show the bit v: raised once where it does not, from the bit `start` on
unfoldable pub shown_cell : (start x v : ℕ) → ℕ
shown_cell start x v =
    from_bits 3 (λ i. get_or (raised_times start ((ones_of x + v) % 2) (x % 2 ∷ x / 2 % 2 ∷ x / 4 % 2 ∷ [])) i 0)

-- the bits that are wanted of the two cells of stage i of a block, each at its cell's lowest bit: `first` and `second` have the first
-- stage's worth most
abbrev pub wanted_pair : (first second i : ℕ) → ℕ
wanted_pair first second i = first / 2 ^ (7 - i) % 2 + 8 * (second / 2 ^ (7 - i) % 2)

-- those of its first n stages as a word
abbrev pub wanted_bits : (first second n : ℕ) → ℕ
wanted_bits first second = packed_of 6 (wanted_pair first second)

-- a word with one bit, 0 or 1, for each of sixteen cells: the lowest of the cell's three
pub record CellBits (word : ℕ) : Type 0 where
  pub less : word < 2 ^ 48
  pub bit : (j : ℕ) → cell_in word j ≤ 1

-- each mark in sixteen cells on the next bit of its cell, going round the three
pub record Onward (marks r : ℕ) : Type 0 where
  pub moved : (j : ℕ) → j < 16 → cell_in r j ≡ cell_in marks j * 2 % 8 + cell_in marks j / 4

-- the sixteen cells of block q, each showing the bit that is wanted of it
pub record BlockShown (q bits wanted r : ℕ) : Type 0 where
  pub cells : (j : ℕ) → j < 16 → cell_in r j ≡ shown_cell (start_of (16 * q + j)) (cell_in bits j) (cell_in wanted j)

-- byte j of 48 bits
unfoldable pub byte_in : ℕ → ℕ → ℕ
byte_in bits j = bits / 2 ^ (8 * j) % 256

-- the strip with these 48 bits in block q
unfoldable pub with_bits : List ℕ → ℕ → ℕ → List ℕ
with_bits strip q bits =
    set (set (set (set (set (set strip (6 * q) (byte_in bits 0)) (6 * q + 1) (byte_in bits 1)) (6 * q + 2) (byte_in bits 2)) (6 * q + 3)
    (byte_in bits 3)) (6 * q + 4) (byte_in bits 4)) (6 * q + 5) (byte_in bits 5)

-- what carrying out asks: a digit for each stage of data of at most 64 bytes, and a strip for them
pub record CarryRequires (strip content digits : List ℕ) : Type 0 where
  pub digits_are : length digits ≡ length content
  pub most : length content ≤ 64
  pub size : length strip ≡ byte_count one_bit (length content)
