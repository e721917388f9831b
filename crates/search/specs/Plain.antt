-- THE PLAIN SEARCH, on numbers: states, four words, and what each word costs at a stage. It is what a program of the search computes,
-- however it holds its costs; above it everything is proved once, from two facts about a layout (`Quotes`).
--   Prices                     the prices of the four words at a stage, and the bit that wins a tie
--   branch_word words s u      the word that the state s wants with the digit u
--   branch_price, branch_tie   a branch's price, and whether the digit 1 wins a tie
--   Quotes                     the two facts: the prices are the least costs of the words, and the bit decides ties
use Rattle.std.specs.Prelude.{◌≡◌, Bool, true, false, cond, ℕ, ◌-◌}
use Rattle.std.specs.Bool.{beq}
use Rattle.std.proofs.Math.Option.{Option, some}
use Rattle.codes.specs.Sequences.{odd}
use Rattle.codes.specs.Encoders.{Encoder}
use Rattle.search.specs.Best.{Solution}
use Rattle.search.specs.Search.{Stage, Choice}
use Rattle.search.specs.Plan.{solution_cost, Decides}
use Rattle.search.specs.Numbered.{branch_n}

-- what a stage's four words cost, none where a word is closed; of two branches as dear the one wins whose first code bit is `stay`
pub record Prices : Type 0 where
  pub of : ℕ → Option ℕ
  pub stay : Bool

module _ (words : ℕ → ℕ) where
  -- a state wants its word for the digit 0, and the word of the other bits for the digit 1
  unfoldable pub branch_word : ℕ → Bool → ℕ
  branch_word s u = cond u (3 - words s) (words s)

  -- the price of a branch
  unfoldable pub branch_price : Prices → ℕ → Bool → Option ℕ
  branch_price q s u = q.of (branch_word s u)

  -- whether the digit 1 wins a tie: its first code bit is the one that wins
  unfoldable pub branch_tie : Prices → ℕ → Bool
  branch_tie q s = beq q.stay (odd (branch_word s true))

-- WHAT A LAYOUT MUST SHOW of its prices at the stages that are Ok: they are the least costs of the words that the branches want, and where
-- both branches are open the bit tells which gives the first cell the lower level
pub record Quotes (E : Encoder) (choose : Choice) (words : ℕ → ℕ) (quote : Stage → Prices) (Ok : Stage → Type 0) : Type 0 where
  pub priced : (g : Stage) → Ok g → (s : ℕ) (u : Bool) → branch_price words (quote g) s u ≡ solution_cost (branch_n E choose g s u)
  pub tied : (g : Stage) → Ok g → (s : ℕ) (a b : Solution) → branch_n E choose g s false ≡ some a → branch_n E choose g s true ≡ some b
      → Decides (branch_tie words (quote g) s) a.levels b.levels
