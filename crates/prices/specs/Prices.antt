-- THE PRICES of one bit a cell, two cells a stage: what the four words of a stage cost. The KIND of a cell is its level, and 4 more where
-- it is marked.
--   step_list W              the weights W of the three steps, and closed for every other kind of cell
--   price_for steps kind v   what it costs that a cell of a kind shows the bit v
--   row_price steps k        the price at place k of the table: word k mod 4 of row k div 4
--   Table W rows             the table of the weights W, in 256ths
--   Priced W rows            the same, of three weights of a byte each, none of them free
use Rattle.std.specs.Prelude.{◌≡◌, cond, List, ◌++◌, ℕ, ◌+◌, ◌*◌, ◌/◌, ◌%◌, ◌<◌, ◌≤◌, min, eqb, get_or, replicate}
use Rattle.cells.specs.Climbs.{Weights}
use Rattle.search.specs.Strip.{Dear, steps_of}
use Rattle.stages.specs.Stage.{closed, ceiling}

-- the three weights, and closed for the step from level 3 and for a marked cell, which 'is never raised'
unfoldable pub step_list : List ℕ → List ℕ
step_list W = W ++ replicate 5 closed

-- nothing where the cell shows the bit v already, else its step
unfoldable pub price_for : List ℕ → ℕ → ℕ → ℕ
price_for steps kind v = cond (eqb (kind % 2) v) 0 (get_or steps kind 0)

-- row r = k div 4 has the first cell's kind r mod 8, the second cell's level r div 8 mod 4 and the label r div 32; its word j = k mod 4
-- asks bit 0 of j of the first cell, and bit 1 with the label added of the second. A word that is closed costs closed
unfoldable pub row_price : List ℕ → ℕ → ℕ
row_price steps k = min (price_for steps (k / 4 % 8) (k % 2) + price_for steps (k / 32 % 4) ((k / 2 + k / 128) % 2)) closed

-- 64 rows of four prices in 256ths
pub record Table (W rows : List ℕ) : Type 0 where
  pub prices : (k : ℕ) → k < 256 → get_or rows k 0 ≡ 256 * row_price (step_list W) k
  pub cut : (k : ℕ) → get_or rows k 0 ≤ ceiling

-- of three weights of a byte each, none of them free
pub record Priced (W rows : List ℕ) : Type 0 where
  pub weights : Weights W
  pub dear : Dear (steps_of W)
  pub table : Table W rows
