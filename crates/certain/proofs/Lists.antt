-- A LIST OF WRITES in one call on a page every cell of which is below level k: with no cell marked, all of them are written where the last
-- of them is certain. So is a list of three on an erased page.
--   list-certain   THE LIST
use mathlib.Core.Path.{◌≡◌, refl, ◌∙◌, ap}
use mathlib.Core.List.{List}
use mathlib.Core.Option.{Option, none, some}
use Prim.Native.Nat.{ℕ, zero, suc, ◌<◌, ◌≤◌, ◌+◌, ◌*◌}
use native.Mathlib.Omega.{arith}
use lib.ListN.{length}
use Rattle.cells.specs.Places.{sum_of}
use Rattle.cells.specs.Bytes.{Octets}
use Rattle.cells.proofs.Places.{sum_of-more}
use Rattle.demand.proofs.Jobs.{part_length, part-octets}
use Rattle.refusals.proofs.Refusals.{limits-in, none-applies}
use Rattle.page_parts.proofs.Strips.{datas-length}
use Rattle.page_promises.specs.Writes.{map_size, answer_with, page_with}
use Rattle.page_promises.specs.Lists.{data_of, with_write, Course, course_after, ground_of, list_course, list_with}
use Rattle.page_promises.proofs.Lists.{course_at, course-more, list-course}
use Rattle.page_answers.specs.declared.Answer.{Answer}
use Rattle.page_answers.specs.declared.End.TheVariants as E
use Rattle.page_ledger.specs.Marks.{NoneMarked}
use Rattle.certain.specs.Certain.{Permitted, DataFor, Low, certain_most, certain_writes}
use Rattle.certain.proofs.Certain.{turn-certain, turn_low}

module _ (start : ℕ → ℕ) {map : Option (List ℕ)} {W : List ℕ} {code L S k : ℕ} (count : ℕ) {page content : List ℕ}
    (P : Permitted W code L S) (N : NoneMarked L S map) (low : Low L S k page) (some-count : 0 < count)
    (last : count + k ≤ suc certain_writes) (size : length content ≡ count * (L * S)) (octets : Octets content) where
  -- the list has no ground
  listed-none : ground_of map W code L S count page content ≡ none
  listed-none =
      none-applies (some count) (map_size map) W code L S (length page) (length content) P.sizes P.not_free
      (rw (limits-in count some-count (omega arith))) N.right low.size size

  -- its datas have their bytes
  datas-fit : (n : ℕ) → n < count → DataFor L S (data_of L S content n)
  datas-fit n h = record {
    size = part_length (L * S) count n content (datas-length count L S size) h;
    octets = part-octets (L * S) n content octets;
  }

  -- what the first n of these writes cost at the most
  abbrev most_of : ℕ → ℕ
  most_of n = sum_of n (λ i. certain_most L S (k + i) W)

  -- the first n are written, for at most so much together
  record Written (n : ℕ) (c : Course) : Type 0 where
    after : List ℕ
    cost : ℕ
    is : c ≡ course_at after n cost E.Done
    bound : cost ≤ most_of n
    lower : Low L S (k + n) after

  course-certain : (n : ℕ) → n ≤ count → Written n (list_course map W code L S page content start n)
  unfolding course_after sum_of
  course-certain zero h =
      let z : k + 0 ≡ k = omega arith in
      record { after = page; cost = 0; is = refl; bound = omega arith; lower = rw z low }
  course-certain (suc n) h =
      let w = course-certain n (omega arith) in
      let d = datas-fit n (omega arith) in
      let s = turn-certain P N d w.lower (omega arith) in
      let z : k + suc n ≡ suc (k + n) = omega arith in
      record {
        after = page_with map W code L S w.after (data_of L S content n) start;
        cost = w.cost + s.cost;
        is = course-more (answer_with map W code L S) (λ p one. page_with map W code L S p one start) (data_of L S content) page
            {n = n} w.is refl
            ∙ ap (λ (r : Answer). record {
              page = page_with map W code L S w.after (data_of L S content n) start;
              answer = with_write (course_at w.after n w.cost E.Done).answer r;
            }) s.done;
        bound = omega (arith, w.bound, s.bound, sum_of-more n (λ i. certain_most L S (k + i) W));
        lower = rw z (turn_low P N d w.lower start);
      }

  -- THE LIST: all of it is written, and it costs at most what its writes do
  pub list-certain : let a = (list_with map W code L S count page content start).answer in
      (a.written ≡ count) × (a.end ≡ E.Done) × (a.cost ≤ sum_of count (λ i. certain_most L S (k + i) W))
  list-certain =
      let w = course-certain count (omega arith) in
      let e = list-course map W code L S count page content start listed-none ∙ w.is in (
        ap (λ (c : Course). c.answer.written) e,
        ap (λ (c : Course). c.answer.end) e,
        omega (arith, ap (λ (c : Course). c.answer.cost) e, w.bound),
      )
