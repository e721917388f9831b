use Prim.Native.Nat.{ℕ, ◌*◌, ◌+◌, ◌≤◌}
use native.Mathlib.Omega.{arith}
use lib.ListN.{get_or, length-set}
use mir.Syntax.{w8}
use borrow.Author.Rules.{rules, elem_Fits}
use Rattle.cells.proofs.Places.{store-more}
use Rattle.stages.specs.Stage.{closed}
use Rattle.prices.specs.Prices.{row_price}
use Rattle.prices.proofs.Prices.{steps-le, table_filled}
use Rattle.prices.proofs.rows_of.Goals as goal

pub row_prices-prices-requires : goal.row_prices-prices-requires
row_prices-prices-requires c =
    let steps-cut : (i : ℕ) → get_or c.steps_of-steps.result i 0 ≤ closed = λ i. rw c.steps_of-steps.ensures
    (steps-le _ (λ j. let h = (elem_Fits w8 w8 c.args.weights _ j c.well_formed.0.1.1 tt).fits in omega arith) i) in
    (search rules, steps-cut)

pub loop-j-preserved : goal.loop-j-preserved
loop-j-preserved c = (
  simp length-set c.loop-j.invariant.0,
  λ k h. store-more c.loop-j.rows (4 * c.loop-r.r + c.loop-j.j) _ (λ i. 256 * row_price c.steps_of-steps.result i) (omega (arith, c.loop-j.invariant.0, c.loop-r-test.true))
      (c.row_prices-prices.ensures c.loop-j.j (omega arith)) c.loop-j.invariant.1 k (omega arith),
)

pub returns : goal.returns
returns c =
    table_filled c.args.weights c.steps_of-steps.result c.loop-r.rows c.steps_of-steps.ensures c.loop-r.invariant.0
    (λ k h. c.loop-r.invariant.1 k (omega arith))
