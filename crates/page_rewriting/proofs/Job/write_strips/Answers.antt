-- The plans answer for the page. Where they are done, carrying them out leaves the page of the write; else nothing is touched.
use mathlib.Core.Path.{◌≡◌, ◌∙◌}
use mathlib.Core.List.{◌++◌}
use Prim.Native.Nat.{◌*◌, ◌-◌}
use lib.ListN.{length, drop, replicate}
use Rattle.codes.specs.Codes.{generators_of}
use Rattle.trellis.proofs.Ways.{Suits, suits}
use Rattle.page_rewriting.proofs.Loops.{job-sized, whole-most, front_length, front_fits, front-back, done-page, kept-page}
use Rattle.page_rewriting.proofs.Job.write_strips.Goals.{After-plan_strips-answer}
use Rattle.page_rewriting.proofs.Job.write_strips.Goals as goal

pub slice_bounds-digits-end : goal.slice_bounds-digits-end
slice_bounds-digits-end c = whole-most (job-sized c.args.self.now c.requires.page_is)

pub plan_strips-answer-requires : goal.plan_strips-answer-requires
plan_strips-answer-requires c =
    record {
      page_is = c.requires.page_is;
      digits_len = front_length _ _ (whole-most (job-sized c.args.self.now c.requires.page_is));
    }

pub slice_bounds-carry_strips-end : goal.slice_bounds-carry_strips-end
slice_bounds-carry_strips-end c =
    let digits-length : length ((c.plan_strips-answer.new.digits)) ≡ c.args.self.now.bytes * c.args.self.now.strips = c.plan_strips-answer.auto.digits ∙ front_length _ _ (whole-most (job-sized c.args.self.now c.requires.page_is)) in
    front_fits _ ((c.plan_strips-answer.new.digits)) ((drop (c.args.self.now.bytes * c.args.self.now.strips - 0) (replicate 4096 0))) digits-length

pub carry_strips-requires : goal.carry_strips-requires
carry_strips-requires c =
    let digits-length : length ((c.plan_strips-answer.new.digits)) ≡ c.args.self.now.bytes * c.args.self.now.strips = c.plan_strips-answer.auto.digits ∙ front_length _ _ (whole-most (job-sized c.args.self.now c.requires.page_is)) in
    record {
      page_is = c.requires.page_is;
      digits_len = front_length _ ((c.plan_strips-answer.new.digits) ++ (drop (c.args.self.now.bytes * c.args.self.now.strips - 0) (replicate 4096 0)))
          (front_fits _ ((c.plan_strips-answer.new.digits)) ((drop (c.args.self.now.bytes * c.args.self.now.strips - 0) (replicate 4096 0))) digits-length);
    }

-- the weights suit the code
suited : (c : After-plan_strips-answer) → Suits (generators_of c.args.self.now.code) c.args.self.now.weights
suited c = suits c.args.self.now.code c.args.self.now.weights c.args.self.now.weighed

pub returns-in-Done-clause-page_after : goal.returns-in-Done-clause-page_after
returns-in-Done-clause-page_after c =
    let digits-length : length c.plan_strips-answer.new.digits ≡ c.args.self.now.bytes * c.args.self.now.strips = c.plan_strips-answer.auto.digits ∙ front_length _ _ (whole-most (job-sized c.args.self.now c.requires.page_is)) in
    let carried = rw (front-back _ c.plan_strips-answer.new.digits (drop (c.args.self.now.bytes * c.args.self.now.strips - 0) (replicate 4096 0)) digits-length) at c.carry_strips.ensures in
    done-page (suited (goal.at.returns-in-Done-clause-page_after c).After-plan_strips-answer) c.args.self.now.dear c.args.self.now.map.now (job-sized c.args.self.now c.requires.page_is) c.plan_strips-answer.ensures.value
    c.in-Done.is c.plan_strips-answer.ensures.planned carried

pub returns-in_default : goal.returns-in_default
returns-in_default c = record {
  value = c.plan_strips-answer.ensures.value;
  page_after = kept-page (suited (goal.at.returns-in_default c).After-plan_strips-answer) c.args.self.now.dear c.args.self.now.map.now (job-sized c.args.self.now c.requires.page_is)
      c.plan_strips-answer.ensures.value c.in_default.not-Done;
}
