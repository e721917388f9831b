-- WHERE A SEARCH CANNOT FAIL, and what it costs at most.
--   Within most r   an optional solution that is there and costs at most so much
--   Open S w x      a cell that can be raised for at most w
--   OneFirst g      a generator that begins with 1
use Rattle.std.specs.Prelude.{◌≡◌, Bool, true, false, List, ◌∷◌, ℕ, ◌<◌, ◌≤◌}
use Rattle.std.proofs.Math.Option.{Option, some}
use Rattle.search.specs.Best.{Solution}
use Rattle.search.specs.Strip.{Steps, Cell}

-- there, at a cost of at most so much
pub record Within (most : ℕ) (r : Option Solution) : Type 0 where
  pub found : Solution
  pub is : r ≡ some found
  pub cheap : found.cost ≤ most

-- unmarked, below the highest level, and its next step costs at most w
pub record Open (S : Steps) (w : ℕ) (x : Cell) : Type 0 where
  pub free_to : x.mark ≡ false
  pub below : x.level < S.top
  pub step : S.weight x.level ≤ w

-- the digit of the present stage is 1
pub record OneFirst (g : List Bool) : Type 0 where
  pub others : List Bool
  pub is : g ≡ true ∷ others
