-- THE SEAM: from the two facts about a layout's prices, the plain search finds the write of a strip.
--   plain-cost    the plain search's cost of state 0 is the write's
--   plain-write   the solution of the plain search's digits is the write
use mathlib.Core.Path.{◌≡◌, ◌∙◌, ap}
use mathlib.Core.List.{List}
use Prim.Native.Nat.{ℕ}
use Rattle.cells.specs.Places.{Each}
use Rattle.codes.specs.Sequences.{Bits}
use Rattle.codes.specs.Encoders.{Encoder}
use Rattle.search.specs.Strip.{Cell}
use Rattle.search.specs.Search.{Stage, Choice, stages, write}
use Rattle.search.specs.Plan.{solution_cost, costs, plan, play}
use Rattle.search.specs.Numbered.{branch_n, next_n}
use Rattle.search.specs.Plain.{Prices, branch_price, branch_tie, Quotes}
use Rattle.search.proofs.Plan.{costs-best, plan-best}
use Rattle.search.proofs.Numbered.{write-numbers}

module _ (E : Encoder) (choose : Choice) (words : ℕ → ℕ) (quote : Stage → Prices) (Ok : Stage → Type 0) (Q : Quotes E choose words quote Ok)
    (d : ℕ → Bits) (k n : ℕ) (old : List Cell) (ok : Each Ok (stages E d k 0 n old)) where
  -- the stages of the strip
  abbrev gg : List Stage
  gg = stages E d k 0 n old

  -- what state 0 costs before the first stage
  pub plain-cost : costs (λ g. branch_price words (quote g)) (next_n E) gg 0 ≡ solution_cost (write E d choose k n old)
  plain-cost = costs-best (branch_n E choose) (next_n E) (λ g. branch_price words (quote g)) Ok Q.priced ok 0
      ∙ ap solution_cost (write-numbers E choose d k n old)

  -- the solution of the digits that it takes
  pub plain-write : play (branch_n E choose) (next_n E) gg 0
      (plan (λ g. branch_price words (quote g)) (λ g. branch_tie words (quote g)) (next_n E) gg 0) ≡ write E d choose k n old
  plain-write =
      plan-best (branch_n E choose) (next_n E) (λ g. branch_price words (quote g)) Ok Q.priced (λ g. branch_tie words (quote g))
      Q.tied ok 0
      ∙ write-numbers E choose d k n old
