use mathlib.Core.Path.{sym, ◌∙◌}
use mathlib.Core.List.{List}
use Prim.Native.Nat.{ℕ, ◌+◌, ◌*◌, ◌≤◌}
use native.Mathlib.Omega.{arith}
use lib.ListN.{length}
use Rattle.prices.specs.Prices.{Priced}
use Rattle.trellis.proofs.Ways.{suits}
use Rattle.page_parts.proofs.Strips.{lent_length, stored-length}
use Rattle.page_rewriting.specs.Jobs.{job_on}
use Rattle.page_rewriting.proofs.Loops.{job-sized, lent-limits, part-fits, data-length, turn-shaped, turn-outcome, table-priced, planned-none}
use Rattle.page_rewriting.proofs.Loops.{planned-more, Reached, reached-none, reached-more, reached-spent, spent-none, reached-all}
use Rattle.page_rewriting.proofs.Job.plan_strips.Goals.{After-rows_of-rows, After-data_part, After-add-total}
use Rattle.page_rewriting.proofs.Job.plan_strips.Goals as goal

-- the table is that of the weights
priced : (c : After-rows_of-rows) → Priced c.args.self.now.weights c.rows_of-rows.result
priced c =
    let J = c.args.self.now in
    table-priced (suits J.code J.weights J.weighed) J.dear c.rows_of-rows.ensures

pub loop-k-init : goal.loop-k-init
loop-k-init c = (
  λ W P. reached-none c.args.self.now.map.now (suits c.args.self.now.code W P.weights) P.dear (job-sized c.args.self.now c.requires.page_is)
      c.new-total.ensures,
  λ W P. planned-none c.requires.digits_len,
)

pub overflow_mul-a : goal.overflow_mul-a
overflow_mul-a c =
    let fit : c.args.self.now.bytes * c.loop-k.k + c.args.self.now.bytes ≤ length c.args.self.now.«data».now = part-fits (job-sized c.args.self.now c.requires.page_is) c.loop-k-test.true in
    omega (arith, fit)

pub map_part-requires : goal.map_part-requires
map_part-requires c = lent-limits (job-sized c.args.self.now c.requires.page_is) c.loop-k-test.true

pub data_part-requires : goal.data_part-requires
data_part-requires c = part-fits (job-sized c.args.self.now c.requires.page_is) c.loop-k-test.true

-- a strip's part lies within the digits
digits-fit : (c : After-data_part) → c.args.self.now.bytes * c.loop-k.k + c.args.self.now.bytes ≤ length c.loop-k.digits
digits-fit c =
    omega (arith, part-fits (job-sized c.args.self.now c.requires.page_is) c.loop-k-test.true, c.loop-k.auto.digits, c.requires.digits_len, c.args.self.now.data_is)

pub overflow_add-a : goal.overflow_add-a
overflow_add-a c = record { fits = omega (arith, part-fits (job-sized c.args.self.now c.requires.page_is) c.loop-k-test.true) }

pub slice_bounds-plan_strip-end : goal.slice_bounds-plan_strip-end
slice_bounds-plan_strip-end c = digits-fit c

pub plan_strip-outcome-requires : goal.plan_strip-outcome-requires
plan_strip-outcome-requires c =
    record {
      shaped = turn-shaped c.args.self.now.map.now (job-sized c.args.self.now c.requires.page_is) c.loop-k-test.true c.strip.ensures.result_value
          c.map_part.ensures c.data_part.ensures c.rows_of-rows.ensures;
      digits_len = lent_length c.args.self.now.bytes c.loop-k.k c.loop-k.digits (digits-fit (goal.at.plan_strip-outcome-requires c).After-data_part)
          ∙ sym (data-length c.args.self.now.map.now (job-sized c.args.self.now c.requires.page_is) c.loop-k-test.true c.strip.ensures.result_value c.map_part.ensures c.data_part.ensures);
    }

-- the total with one more strip
one_more : (c : After-add-total) → (W : List ℕ) → Priced W c.rows_of-rows.result
    → Reached (record (job_on c.args.self.now c.args.page.now) { weights = W })
    c.add-total.result (c.loop-k.k + 1)
one_more c W P =
    reached-more (c.loop-k.invariant.0 W P) c.loop-k-test.true
    (turn-outcome c.args.self.now.map.now (job-sized c.args.self.now c.requires.page_is) c.loop-k-test.true c.strip.ensures.result_value c.map_part.ensures c.data_part.ensures
    (suits c.args.self.now.code W P.weights) P.dear (c.plan_strip-outcome.ensures.by_index W P)) c.add-total.ensures

pub returns-then-total : goal.returns-then-total
returns-then-total c =
    let fits = digits-fit (goal.at.returns-then-total c).After-data_part in
    let long = c.plan_strip-outcome.ensures.free.size ∙ lent_length c.args.self.now.bytes c.loop-k.k c.loop-k.digits fits in
    let reached = one_more (goal.at.returns-then-total c).After-add-total _ (priced (goal.at.returns-then-total c).After-rows_of-rows) in
    record {
      value = reached-spent reached c.if-total.true c.answer.ensures;
      planned = record { planned = λ a f. absurd (spent-none reached c.if-total.true a f) };
      free = record { size = stored-length c.args.self.now.bytes c.loop-k.k c.loop-k.digits c.plan_strip-outcome.new.digits fits long ∙ c.loop-k.auto.digits };
    }

pub loop-k-preserved : goal.loop-k-preserved
loop-k-preserved c = (
  one_more (goal.at.loop-k-preserved c).After-add-total,
  λ W P. planned-more c.args.self.now.map.now (job-sized c.args.self.now c.requires.page_is) c.loop-k-test.true c.strip.ensures.result_value c.map_part.ensures c.data_part.ensures
      (c.loop-k.invariant.1 W P) (c.plan_strip-outcome.ensures.free.size, c.plan_strip-outcome.ensures.by_index_2 W P),
)

pub returns : goal.returns
returns c =
    let P = priced (goal.at.returns c).After-rows_of-rows in
    record {
      value = reached-all (c.loop-k.invariant.0 _ P) c.loop-k-test.false c.answer-2.ensures;
      planned = record { planned = λ a e j h. (c.loop-k.invariant.1 _ P).so_far j (omega (arith, c.loop-k-test.false)) };
      free = record { size = c.loop-k.auto.digits };
    }
