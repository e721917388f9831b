-- A BLOCK is eight stages. Costs are held in 256ths, and a word whose first code bit is not the row's costs a little more, at a bit of
-- the low byte that is the stage's own: so ties fall as they must, and the low byte of a state's number says how it came to the end of
-- the block.
--   pick_at picks i                   the row of stage i of the block: a byte of picks
--   flag_of low j                     1 where the first code bit of the word j is not `low`
--   marked_of rows r k                the price of each word of the row r, marked at the bit k
--   block_of                          the numbers of the states before the last k stages of a block
--   settled_of                        a number with its low byte cleared, and cut off at `ceiling`
--   RunRequires, Ran, Settled, Kept   what the functions of a block ask and give
use Rattle.std.specs.Prelude.{ℕ, zero, suc, ◌+◌, ◌-◌, ◌*◌, ◌/◌, ◌%◌, ◌^◌, ◌≤◌, ◌<◌, min, List, ◌≡◌, length, get_or}
use Rattle.stages.specs.Stage.{ceiling, stage_of}

-- the row of stage i: 64 rows are in use
unfoldable pub pick_at : ℕ → ℕ → ℕ
pick_at picks i = picks / 2 ^ (8 * i) % 64

-- 1 where the first code bit of the word j is not `low`
unfoldable pub flag_of : ℕ → ℕ → ℕ
flag_of low j = (low + j) % 2

-- the price of the word j in the row r, marked at the bit k: the row's own bit is its number's lowest
unfoldable pub marked_of : (rows : List ℕ) (r k j : ℕ) → ℕ
marked_of rows r k j = get_or rows (4 * r + j) 0 + flag_of (r % 2) j * 2 ^ k

-- a block of `size` stages, n states, their words, and the numbers after the block: the numbers before its last k stages
module _ (size n : ℕ) (words : ℕ → ℕ) (rows : List ℕ) (picks : ℕ) (after : ℕ → ℕ) where
  unfoldable pub block_of : ℕ → ℕ → ℕ
  block_of zero = after
  block_of (suc k) = stage_of n words (marked_of rows (pick_at picks (size - suc k)) k) (block_of k)

-- the low byte cleared, and cut off at `ceiling`
unfoldable pub settled_of : ℕ → ℕ
settled_of x = min (x / 256 * 256) ceiling

-- what a block asks: numbers and prices that are cut off
pub record RunRequires (costs rows : List ℕ) : Type 0 where
  pub size : length costs ≡ 64
  pub costs_le : (i : ℕ) → get_or costs i 0 ≤ ceiling
  pub rows_le : (i : ℕ) → get_or rows i 0 ≤ ceiling

-- the numbers of n states before the block; the other places are not touched
pub record Ran (n : ℕ) (words : ℕ → ℕ) (rows : List ℕ) (picks : ℕ) (entry exit : List ℕ) : Type 0 where
  pub size : length exit ≡ 64
  pub states : (s : ℕ) → s < n → get_or exit s 0 ≡ block_of 8 n words rows picks (λ i. get_or entry i 0) 8 s
  pub others : (s : ℕ) → n ≤ s → get_or exit s 0 ≡ get_or entry s 0

-- the numbers of n states settled; the other places are not touched
pub record Settled (n : ℕ) (entry exit : List ℕ) : Type 0 where
  pub size : length exit ≡ 64
  pub states : (s : ℕ) → s < n → get_or exit s 0 ≡ settled_of (get_or entry s 0)
  pub others : (s : ℕ) → n ≤ s → get_or exit s 0 ≡ get_or entry s 0

-- the low bytes of n states kept as block q of the history; the other places are not touched
pub record Kept (n q : ℕ) (costs entry exit : List ℕ) : Type 0 where
  pub size : length exit ≡ 4096
  pub here : (s : ℕ) → s < n → get_or exit (64 * q + s) 0 ≡ get_or costs s 0 % 256
  pub before : (k : ℕ) → k < 64 * q → get_or exit k 0 ≡ get_or entry k 0
  pub after : (k : ℕ) → 64 * q + n ≤ k → get_or exit k 0 ≡ get_or entry k 0
