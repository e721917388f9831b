use mathlib.Core.List.{List}
use Prim.Native.Nat.{ℕ, ◌+◌}
use Rattle.prices.specs.Prices.{Priced}
use Rattle.trellis.proofs.Ways.{suits}
use Rattle.page_rewriting.specs.Jobs.{job_on}
use Rattle.page_rewriting.proofs.Loops.{job-sized, lent-limits, part-fits, turn-shaped, turn-outcome, table-priced, Reached}
use Rattle.page_rewriting.proofs.Loops.{reached-none, reached-more, reached-spent, reached-all}
use Rattle.page_rewriting.proofs.Job.price_strips.Goals.{After-rows_of-rows, After-add-total}
use Rattle.page_rewriting.proofs.Job.price_strips.Goals as goal

-- the table is that of the weights
priced : (c : After-rows_of-rows) → Priced c.args.self.now.weights c.rows_of-rows.result
priced c =
    let J = c.args.self.now in
    table-priced (suits J.code J.weights J.weighed) J.dear c.rows_of-rows.ensures

pub loop-k-init : goal.loop-k-init
loop-k-init c =
    let J = c.args.self.now in
    λ W P. reached-none J.map.now (suits J.code W P.weights) P.dear (job-sized J c.requires.page_is) c.new-total.ensures

pub map_part-marked-requires : goal.map_part-marked-requires
map_part-marked-requires c = lent-limits (job-sized c.args.self.now c.requires.page_is) c.loop-k-test.true

pub data_part-requires : goal.data_part-requires
data_part-requires c = part-fits (job-sized c.args.self.now c.requires.page_is) c.loop-k-test.true

pub price_strip-price-requires : goal.price_strip-price-requires
price_strip-price-requires c =
    turn-shaped _ (job-sized c.args.self.now c.requires.page_is) c.loop-k-test.true c.strip.ensures.result_value c.map_part-marked.ensures c.data_part.ensures
    c.rows_of-rows.ensures

-- the total with one more strip
one_more : (c : After-add-total) → (W : List ℕ) → Priced W c.rows_of-rows.result
    → Reached (record (job_on c.args.self.now c.args.page.now) { weights = W })
    c.add-total.result (c.loop-k.k + 1)
one_more c W P =
    let J = c.args.self.now in
    reached-more (c.loop-k.invariant W P) c.loop-k-test.true
    (turn-outcome J.map.now (job-sized J c.requires.page_is) c.loop-k-test.true c.strip.ensures.result_value c.map_part-marked.ensures c.data_part.ensures
    (suits J.code W P.weights) P.dear (c.price_strip-price.ensures W P)) c.add-total.ensures

pub loop-k-preserved : goal.loop-k-preserved
loop-k-preserved c = one_more (goal.at.loop-k-preserved c).After-add-total

pub returns-then-total : goal.returns-then-total
returns-then-total c = reached-spent (one_more (goal.at.returns-then-total c).After-add-total _ (priced (goal.at.returns-then-total c).After-rows_of-rows)) c.if-total.true c.answer.ensures

pub returns : goal.returns
returns c = reached-all (c.loop-k.invariant _ (priced (goal.at.returns c).After-rows_of-rows)) c.loop-k-test.false c.answer-2.ensures
