-- THE TRAIL: where the plan of the plain search leaves the bit that wins ties. From the trail of a state and the stages' bits the first
-- code bits of its way follow, and from them its digits.
--   stages_from   k stages from stage t on
--   miss_of       1 where the first code bit of a branch is not the stage's
--   digit_of      the plan's digit
--   trail_of      the misses along the plan of the first k stages, the first stage worth most
--   Quoted        WHAT A LAYOUT MUST SHOW of a row: it tells the prices of a stage, in units, and the bit that wins a tie
use Rattle.std.specs.Prelude.{◌≡◌, Bool, not, List, [], ◌∷◌, ℕ, zero, suc, ◌+◌, ◌*◌, ◌%◌, ◌^◌, ◌≤◌, get_or}
use Rattle.std.specs.Bool.{beq}
use Rattle.std.proofs.Math.Option.{Option}
use Rattle.codes.specs.Sequences.{odd}
use Rattle.codes.specs.Numbers.{one-if}
use Rattle.search.specs.Plan.{costs, digit_at}
use Rattle.search.specs.Plain.{Prices, branch_word, branch_price, branch_tie}
use Rattle.stages.specs.Costs.{Decodes}

-- k stages from stage t on
unfoldable pub stages_from : {G : Type 0} → (ℕ → G) → ℕ → ℕ → List G
stages_from stage t zero = []
stages_from stage t (suc k) = stage t ∷ stages_from stage (suc t) k

module _ {G : Type 0} (words : ℕ → ℕ) (quote : G → Prices) (next : G → ℕ → Bool → ℕ) where
  -- the price of a branch, and whether the digit 1 wins a tie
  abbrev pub price_by : G → ℕ → Bool → Option ℕ
  price_by g = branch_price words (quote g)

  abbrev pub tie_by : G → ℕ → Bool
  tie_by g = branch_tie words (quote g)

  -- 1 where the branch's first code bit is not the one that wins ties
  unfoldable pub miss_of : G → ℕ → Bool → ℕ
  miss_of g s u = one-if (not (beq (quote g).stay (odd (branch_word words s u))))

  -- the plan's digit at the state s, with the stages gs after it
  unfoldable pub digit_of : G → List G → ℕ → Bool
  digit_of g gs s = digit_at price_by tie_by next g (costs price_by next gs) s

  -- along the plan's first k stages
  unfoldable pub trail_of : ℕ → List G → ℕ → ℕ
  trail_of zero gs s = 0
  trail_of (suc k) [] s = 0
  trail_of (suc k) (g ∷ gs) s = miss_of g s (digit_of g gs s) * 2 ^ k + trail_of k gs (next g s (digit_of g gs s))

-- the row r of a table tells the prices q in `unit`ths, none of them above `most`. Weights and layouts differ in how the table is filled,
-- and in which row a stage picks
pub record Quoted (unit closed most : ℕ) (rows : List ℕ) (r : ℕ) (q : Prices) : Type 0 where
  pub plain : ℕ → ℕ
  pub in_units : (j : ℕ) → j ≤ 3 → get_or rows (4 * r + j) 0 ≡ unit * plain j
  pub tells : (j : ℕ) → j ≤ 3 → Decodes closed most (plain j) (q.of j)
  pub low : r % 2 ≡ one-if q.stay
