-- ONE TURN of the loop over a list's datas: what is lent, and what the course is after it.
--   data-fits, count_most     a data lies within the slice; there are at most 64
--   turn-sized                the page and the data of a turn are in order
--   turn-course, turn-ended   the course with one more, and where it has ended
--   turn_below                what a data costs
--   data-most                 a data has at most 4,096 bytes
use mathlib.Core.Path.{◌≡◌, refl, ◌∙◌, ap}
use mathlib.Core.Bool.{true}
use mathlib.Core.List.{List}
use mathlib.Core.Option.{none}
use Prim.Native.Nat.{ℕ, suc, ◌+◌, ◌*◌, ◌-◌, ◌<◌, ◌≤◌}
use native.Mathlib.Omega.{arith}
use lib.ListN.{length}
use Rattle.cells.specs.Marks.{marks_in}
use Rattle.cells.specs.Raising.{start_of}
use Rattle.cells.proofs.Parts.{within}
use Rattle.codes.specs.Generators.{Generators}
use Rattle.codes.specs.Layouts.{one_bit}
use Rattle.search.specs.Strip.{Dear, steps_of}
use Rattle.trellis.proofs.Ways.{Suits}
use Rattle.demand.proofs.Jobs.{part_length}
use Rattle.page_parts.specs.Shape.{Sized, Listed}
use Rattle.page_promises.specs.Writes.{one_bit_job, job_answer, job_page}
use Rattle.page_answers.specs.Answers.{answer_cost}
use Rattle.page_promises.specs.Lists.{data_of, with_write, has_ended, job_course}
use Rattle.page_answers.specs.declared.Answer.{Answer}
use Rattle.page_answers.specs.declared.End.TheVariants as E
use Rattle.page_answers.specs.declared.ListAnswer.{ListAnswer}
use Rattle.refusals.proofs.Refusals.{one-to-64}
use Rattle.page_rewriting.proofs.Totals.{page-below}
use Rattle.page_promises.proofs.Lists.{course-more, course-ended}
use Rattle.page_promises.proofs.Plans.{strip-below}
use Rattle.page_parts.proofs.Strips.{datas-length}
use Rattle.page_rewriting.proofs.Loops.{whole-most}

-- A LIST. In a turn of its loop data k ends within the slice
module _ {L S count : ℕ} {page₀ content : List ℕ} (Z : Listed one_bit L S count page₀ content) where
  datas : length content ≡ L * S * count
  datas = datas-length count L S Z.datas_are

  pub data-fits : {k : ℕ} → k < count → L * S * k + L * S ≤ length content
  data-fits {k} h = omega (arith, datas, within (L * S) k count h)

  -- at most 64 datas
  pub count_most : count ≤ 64
  count_most = (one-to-64 count Z.count_in).1

  -- TURN k, on the page as it is
  module _ {k : ℕ} (h : k < count) {page : List ℕ} (same : length page ≡ length page₀) where
    -- the page and the data that it lends are in order
    pub turn-sized : Sized one_bit L S page (data_of L S content k)
    turn-sized = record {
      bytes_in = Z.bytes_in;
      strips_in = Z.strips_in;
      page_is = same ∙ Z.page_is;
      data_is = part_length (L * S) count k content datas h;
    }

    -- with the answer r of data k's write, and the page after it
    module _ (G : Generators) (W map : List ℕ) {a : ListAnswer} {r : Answer} {after : List ℕ}
        (so_far : job_course (marks_in map) G W L S k page₀ content ≡ record { page = page; answer = a }) (going : a.end ≡ E.Done)
        (answer : r ≡ job_answer none (one_bit_job (marks_in map) G W L S page (data_of L S content k)))
        (left : after ≡ job_page none (one_bit_job (marks_in map) G W L S page (data_of L S content k)) start_of) where
      -- the list has one more
      pub turn-course : {b : ListAnswer} → b ≡ with_write a r
          → job_course (marks_in map) G W L S (k + 1) page₀ content ≡ record { page = after; answer = b }
      turn-course e =
          let z : k + 1 ≡ suc k = omega arith in
          ap (λ (m : ℕ). job_course (marks_in map) G W L S m page₀ content) z
          ∙ rw (e, answer, left) (course-more _ _ (data_of L S content) page₀ so_far going)

      -- where it has ended, that is the whole list
      pub turn-ended : {b : ListAnswer} → b ≡ with_write a r → has_ended b.end ≡ true
          → job_course (marks_in map) G W L S count page₀ content ≡ record { page = after; answer = b }
      turn-ended {b} e f =
          let z : count ≡ (k + 1) + (count - (k + 1)) = omega arith in
          let c = turn-course e in
          ap (λ (m : ℕ). job_course (marks_in map) G W L S m page₀ content) z
          ∙ course-ended (λ p one. job_answer none (one_bit_job (marks_in map) G W L S p one))
          (λ p one. job_page none (one_bit_job (marks_in map) G W L S p one) start_of) (data_of L S content) page₀ (k + 1) (count - (k + 1))
          (rw c f)
          ∙ c

      -- what a data costs
      pub turn_below : Suits G W → Dear (steps_of W) → answer_cost r ≤ 33554432
      turn_below K D =
          rw answer
          (omega (
            arith,
            page-below (one_bit_job (marks_in map) G W L S page (data_of L S content k)) (one-to-64 S Z.strips_in).1
                (λ j l a. strip-below G W K D L S (one-to-64 L Z.bytes_in).1 page (marks_in map) (data_of L S content k) j a),
          ))

  -- each data, as the first, has at most 4,096 bytes
  pub data-most : L * S ≤ 4096
  data-most = whole-most (turn-sized {k = 0} (omega (arith, one-to-64 count Z.count_in)) {page = page₀} refl)
