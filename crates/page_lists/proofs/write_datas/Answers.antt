use mathlib.Core.Path.{◌≡◌, refl, sym, ◌∙◌}
use mathlib.Core.Option.{none}
use Prim.Native.Nat.{◌≤◌}
use native.Mathlib.Omega.{arith}
use mir.Syntax.{w8}
use borrow.Author.Rules.{elem_Fits}
use Rattle.cells.specs.Climbs.{Weights}
use Rattle.cells.specs.Marks.{marks_in}
use Rattle.cells.specs.Raising.{start_of}
use Rattle.codes.specs.Codes.{generators_of}
use Rattle.demand.specs.Jobs.{Job}
use Rattle.trellis.proofs.Ways.{suits}
use Rattle.page_promises.specs.Writes.{one_bit_job, job_answer, job_page}
use Rattle.page_answers.specs.Answers.{answer_cost}
use Rattle.page_promises.specs.Lists.{data_of, course_after}
use Rattle.page_promises.proofs.Lists.{with-one, not-ended}
use Rattle.page_lists.proofs.Turns.{data-most, count_most, turn-sized, turn-course, turn-ended, turn_below}
use Rattle.page_lists.proofs.write_datas.Goals.{In-loop-k, After-write_strips-answer}
use Rattle.page_lists.proofs.write_datas.Goals as goal

pub overflow_mul-whole : goal.overflow_mul-whole
overflow_mul-whole c = omega (arith, data-most c.requires.listed)

pub loop-k-init : goal.loop-k-init
unfolding course_after
loop-k-init c = rw c.none_written-so_far.ensures (refl, refl, omega arith, omega arith)

-- the weights are three bytes
weighed : (c : In-loop-k) → Weights c.args.weights
weighed c = record {
  three = c.well_formed.1.0.1.0.1;
  bytes = λ i. let h = (elem_Fits w8 w8 c.args.weights _ i c.well_formed.1.0.1.1 tt).fits in omega arith;
}

pub invariant_of-job : goal.invariant_of-job
invariant_of-job c =
    let Z = turn-sized c.requires.listed c.loop-k-test.true c.loop-k.auto.page in
    record {
      weighed = weighed (goal.at.invariant_of-job c).In-loop-k;
      dear = c.requires.dear;
      bytes_in = Z.bytes_in;
      strips_in = Z.strips_in;
      data_is = rw c.data_part-one.ensures Z.data_is;
    }

pub write_strips-answer-requires : goal.write_strips-answer-requires
write_strips-answer-requires c =
    record { page_is = (turn-sized c.requires.listed c.loop-k-test.true c.loop-k.auto.page).page_is }

-- the job of data k, on the page as it is
abbrev job : After-write_strips-answer → Job
job c =
    one_bit_job (marks_in c.args.map.now) (generators_of c.args.code) c.args.weights c.args.bytes c.args.strips c.loop-k.page
    (data_of c.args.bytes c.args.strips c.args.data.now c.loop-k.k)

-- its answer, and the page after it
written : (c : After-write_strips-answer)
    → (c.write_strips-answer.result ≡ job_answer none (job c)) × (c.write_strips-answer.new.page ≡ job_page none (job c) start_of)
written c =
    (rw c.data_part-one.ensures at c.write_strips-answer.ensures.value, rw c.data_part-one.ensures at c.write_strips-answer.ensures.page_after)

-- what it costs
below : (c : After-write_strips-answer) → answer_cost c.write_strips-answer.result ≤ 33554432
below c =
    turn_below c.requires.listed c.loop-k-test.true c.loop-k.auto.page (generators_of c.args.code) c.args.weights c.args.map.now
    c.loop-k.invariant.0 c.loop-k.invariant.1 (written c).0 (written c).1
    (suits c.args.code c.args.weights (weighed (goal.at.After-write_strips-answer c).In-loop-k)) c.requires.dear

pub with_write-so_far-requires : goal.with_write-so_far-requires
with_write-so_far-requires c =
    let least = below (goal.at.with_write-so_far-requires c).After-write_strips-answer in
    let m = count_most c.requires.listed in
    (omega (arith, c.loop-k.invariant.2, c.loop-k-test.true), omega (arith, c.loop-k.invariant.3, least, c.loop-k-test.true))

pub returns-then-has_ended : goal.returns-then-has_ended
returns-then-has_ended c =
    let w = written (goal.at.returns-then-has_ended c).After-write_strips-answer in
    let e = turn-ended c.requires.listed c.loop-k-test.true c.loop-k.auto.page (generators_of c.args.code) c.args.weights c.args.map.now
    c.loop-k.invariant.0 c.loop-k.invariant.1 w.0 w.1 c.with_write-so_far.ensures (sym c.has_ended.ensures ∙ c.if-has_ended.true) in
    rw e record {
      value = refl;
      page_after = refl;
    }

pub loop-k-preserved : goal.loop-k-preserved
loop-k-preserved c =
    let w = written (goal.at.loop-k-preserved c).After-write_strips-answer in
    let least = below (goal.at.loop-k-preserved c).After-write_strips-answer in
    let o = with-one c.loop-k.so_far c.write_strips-answer.result in (
      turn-course c.requires.listed c.loop-k-test.true c.loop-k.auto.page (generators_of c.args.code) c.args.weights c.args.map.now
          c.loop-k.invariant.0 c.loop-k.invariant.1 w.0 w.1 c.with_write-so_far.ensures,
      not-ended _ (sym c.has_ended.ensures ∙ c.if-has_ended.false),
      rw c.with_write-so_far.ensures (omega (arith, o.0, c.loop-k.invariant.2)),
      rw c.with_write-so_far.ensures (omega (arith, o.1, least, c.loop-k.invariant.3)),
    )
