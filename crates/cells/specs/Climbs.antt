-- What a climb costs, for any weights of the steps.
--   climb weight from to            the cost of one cell's climb
--   cost_of weight n before after   the cost of a change of n cells
--   house, weight_of                16, 20, 28, and three weights as a function of the level
--   Weights                         three weights of a byte each
use Rattle.std.specs.Prelude.{◌≡◌, List, [], ◌∷◌, ℕ, ◌+◌, ◌-◌, ◌≤◌, length, get_or}
use Rattle.cells.specs.Places.{sum_of}
use Rattle.cells.specs.Levels.{level}

-- 'A cell that climbs several levels costs the sum of its steps.' weight l is the cost of the step from level l to the next.
unfoldable pub climb : (ℕ → ℕ) → ℕ → ℕ → ℕ
climb weight from to = sum_of (to - from) (λ i. weight (from + i))

-- 'A page's cost is the sum over its cells, each climbing from its level before the write.'
unfoldable pub cost_of : (ℕ → ℕ) → ℕ → List ℕ → List ℕ → ℕ
cost_of weight n before after = sum_of n (λ c. climb weight (level before c) (level after c))

-- 'the step from level 0 to 1 costs 16, from 1 to 2 costs 20, from 2 to 3 costs 28'
abbrev pub house : List ℕ
house = 16 ∷ 20 ∷ 28 ∷ []

-- the step from each level by a list of weights; no step leads on from the last
unfoldable pub weight_of : List ℕ → ℕ → ℕ
weight_of weights l = get_or weights l 0

-- 'three weights, one byte each'
pub record Weights (W : List ℕ) : Type 0 where
  pub three : length W ≡ 3
  pub bytes : (i : ℕ) → get_or W i 0 ≤ 255
