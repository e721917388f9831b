-- A LIST OF WRITES, by single writes in turn.
--   with-one, not-ended              one more write; an end that has not come
--   course-more, course-ended        a course that goes on, and one that has ended
--   course-keeps                     what each single write keeps the course keeps
--   course-alike                     single writes that answer alike make courses that do
--   single-in-order                  the single writes of a list in order are in order
--   list-course, list-refused        a list in order, and one that is refused, which writes none (refused-writes-none)
--   list-promised                    a list keeps its promise
--   list-climb                       it costs what the climb from the first page to the last costs
--   list-most                        which is at most all three steps for each cell
--   in-order-list                    the jobs of a list in order make its course
--   list-bounds                      how large the fields of its answer are
--   refused-list                     a list that is refused answers so, and changes nothing
--   list-kept                        what answers so and leaves this page keeps promise and bounds
use mathlib.Core.Path.{◌≡◌, refl, sym, ◌∙◌, ap, ap₂}
use mathlib.Core.Bool.{Bool, true, false}
use mathlib.Core.List.{List}
use mathlib.Core.Option.{Option, none, some}
use Prim.Native.Nat.{ℕ, zero, suc, ◌<◌, ◌≤◌, ◌+◌, ◌*◌}
use native.Mathlib.Omega.{arith}
use lib.ListN.{length}
use Rattle.cells.specs.Bytes.{Octets}
use Rattle.cells.specs.Levels.{level}
use Rattle.cells.specs.Raising.{start_of}
use Rattle.cells.specs.Climbs.{cost_of, weight_of, Weights}
use Rattle.cells.proofs.Climbs.{cost-stay, cost-onward, cost_most}
use Rattle.codes.specs.Generators.{Generators}
use Rattle.codes.specs.Layouts.{one_bit, cell_count}
use Rattle.codes.proofs.Layouts.{one_bit-cells}
use Rattle.demand.specs.Demand.{job_cost}
use Rattle.demand.proofs.Jobs.{part_length, part-octets}
use Rattle.refusals.specs.Refusals.{numbered}
use Rattle.page_promises.specs.Writes.{one_bit_job, job_answer, job_page, marked_by, map_size, ground_with, answer_with, page_with}
use Rattle.page_answers.specs.Answers.{answer_cost}
use Rattle.page_promises.specs.Promise.{WroteBy, done, spent, refused}
use Rattle.page_promises.specs.Lists.{data_of, with_write, Course, has_ended, after_one, course_after, unless_refused}
use Rattle.page_promises.specs.Lists.{refused_list, job_course, ground_of, list_course, list_with, list_answer, list_page, list_most}
use Rattle.page_promises.specs.Lists.{largest_list_cost, ListBounds, WroteList}
use Rattle.page_promises.specs.Lists.{InTurn, none_yet, one_more, ListPromised, all_written, stopped_at, not_begun}
use Rattle.refusals.specs.declared.Refusal.{Refusal}
use Rattle.page_answers.specs.declared.Answer.{Answer}
use Rattle.page_answers.specs.declared.Answer.TheVariants as A
use Rattle.page_answers.specs.declared.End.{End}
use Rattle.page_answers.specs.declared.End.TheVariants as E
use Rattle.page_answers.specs.declared.ListAnswer.{ListAnswer}
use Rattle.page_parts.proofs.Strips.{datas-length}
use Rattle.refusals.proofs.Refusals.{one-to-64, weighted-in-order, count-in-order, single-ground}
use Rattle.page_promises.proofs.Promise.{in-order-job, wrote_by, page-length, one-ground}
use Rattle.page_promises.proofs.Bounds.{cells-most}

-- one more write: at most one more is written, and its cost is added
pub with-one : (a : ListAnswer) (r : Answer) → ((with_write a r).written ≤ suc a.written) × ((with_write a r).cost ≡ a.cost + answer_cost r)
with-one a (A.Done cost) = (omega arith, refl)
with-one a (A.Spent strip) = (omega arith, omega arith)
with-one a (A.Refused q) = (omega arith, omega arith)

-- an end that has not come
pub not-ended : (end : End) → has_ended end ≡ false → end ≡ E.Done
not-ended E.Done e = refl
not-ended (E.Spent strip) e = let z : ◌≡◌ {A = Bool} true false = e in absurd (let y : ◌≡◌ {A = ℕ} 0 1 = cc in omega arith)
not-ended (E.Refused r) e = let z : ◌≡◌ {A = Bool} true false = e in absurd (let y : ◌≡◌ {A = ℕ} 0 1 = cc in omega arith)

-- a course with this page, so many datas written for so much, and this end
abbrev pub course_at : List ℕ → ℕ → ℕ → End → Course
course_at page written cost end = record { page = page; answer = record { written = written; cost = cost; end = end } }

module _ (answers : List ℕ → List ℕ → Answer) (pages : List ℕ → List ℕ → List ℕ) (datas : ℕ → List ℕ) (before : List ℕ) where
  -- A COURSE THAT GOES ON, with one more write
  pub course-more : {page : List ℕ} {a : ListAnswer} {n : ℕ} → course_after answers pages datas before n ≡ record { page = page; answer = a }
      → a.end ≡ E.Done
      → course_after answers pages datas before (suc n)
      ≡ record { page = pages page (datas n); answer = with_write a (answers page (datas n)) }
  unfolding course_after
  course-more e f = rw (e, f) refl

  -- A COURSE THAT HAS ENDED stays
  pub course-ended : (n m : ℕ) → has_ended (course_after answers pages datas before n).answer.end ≡ true
      → course_after answers pages datas before (n + m) ≡ course_after answers pages datas before n
  unfolding course_after
  course-ended n zero s = let z : n + 0 ≡ n = omega arith in ap (course_after answers pages datas before) z
  course-ended n (suc m) s =
      let z : n + suc m ≡ suc (n + m) = omega arith in
      ap (course_after answers pages datas before) z ∙ rw (course-ended n m s, s) refl

  -- WHAT EACH WRITE KEEPS the course keeps
  pub course-keeps : (P : List ℕ → Type 0) (count : ℕ) → ((n : ℕ) → n < count → (p : List ℕ) → P p → P (pages p (datas n))) → P before
      → (n : ℕ) → n ≤ count → P (course_after answers pages datas before n).page
  unfolding course_after
  course-keeps P count k b zero h = b
  course-keeps P count k b (suc n) h =
      let i = course-keeps P count k b n (omega arith) in
      go _ _ _ (course_after answers pages datas before n).answer.end i (k n (omega arith) _ i)
    where
      go : (p : List ℕ) (w cost : ℕ) (end : End) → P p → P (pages p (datas n))
          → P (after_one answers pages (course_at p w cost end) (datas n)).page
      go p w cost E.Done i j = j
      go p w cost (E.Spent strip) i j = i
      go p w cost (E.Refused r) i j = i

-- TWO COURSES of single writes that answer alike, and leave pages that are again alike
pub course-alike : (R : List ℕ → List ℕ → Type 0) (answers answers' : List ℕ → List ℕ → Answer) (pages pages' : List ℕ → List ℕ → List ℕ)
    (datas : ℕ → List ℕ) {before before' : List ℕ} (count : ℕ)
    → ((n : ℕ) → n < count → (p q : List ℕ) → R p q
    → (answers p (datas n) ≡ answers' q (datas n)) × R (pages p (datas n)) (pages' q (datas n)))
    → R before before' → (n : ℕ) → n ≤ count
    → ((course_after answers pages datas before n).answer ≡ (course_after answers' pages' datas before' n).answer)
    × R (course_after answers pages datas before n).page (course_after answers' pages' datas before' n).page
unfolding course_after
course-alike R answers answers' pages pages' datas count k r zero h = (refl, r)
course-alike R answers answers' pages pages' datas count k r (suc n) h =
    let i = course-alike R answers answers' pages pages' datas count k r n (omega arith) in
    let z = k n (omega arith) _ _ i.1 in
    go _ _ i.0 _ _ i.1 z.0 z.1
  where
    go : (a b : ListAnswer) → a ≡ b → (p q : List ℕ) → R p q → answers p (datas n) ≡ answers' q (datas n)
        → R (pages p (datas n)) (pages' q (datas n))
        → let c = after_one answers pages (record { page = p; answer = a }) (datas n) in
        let d = after_one answers' pages' (record { page = q; answer = b }) (datas n) in
        (c.answer ≡ d.answer) × R c.page d.page
    go a b e p q r s t = rw e (by_end _ _ b.end)
      where
        by_end : (w cost : ℕ) (end : End)
            → let c = after_one answers pages (course_at p w cost end) (datas n) in
            let d = after_one answers' pages' (course_at q w cost end) (datas n) in
            (c.answer ≡ d.answer) × R c.page d.page
        by_end w cost E.Done = (ap (with_write (record { written = w; cost = cost; end = E.Done })) s, t)
        by_end w cost (E.Spent strip) = (refl, r)
        by_end w cost (E.Refused x) = (refl, r)

-- A LIST IN ORDER, with a map or without one
module _ (map : Option (List ℕ)) (W : List ℕ) (code L S count : ℕ) (before content : List ℕ) where
  -- the bytes of its datas
  datas : ground_of map W code L S count before content ≡ none → length content ≡ L * S * count
  datas e = datas-length count L S (weighted-in-order (some count) (map_size map) W code L S (length before) (length content) e).data_is

  -- each of its single writes is in order
  pub single-in-order : ground_of map W code L S count before content ≡ none → (n : ℕ) → n < count → (page : List ℕ)
      → length page ≡ length before → ground_with map W code L S page (data_of L S content n) ≡ none
  single-in-order e n h page l =
      rw (l, part_length (L * S) count n content (datas e) h)
      (single-ground count (map_size map) W code L S (length before) (length content) e)

  module _ (start : ℕ → ℕ) where
    -- it is the course of them all
    pub list-course : ground_of map W code L S count before content ≡ none
        → list_with map W code L S count before content start
        ≡ list_course map W code L S before content start count
    unfolding list_with
    list-course e = rw e refl

    -- a list that is refused writes nothing
    pub list-refused : {r : Refusal} → ground_of map W code L S count before content ≡ some r
        → list_with map W code L S count before content start ≡ record { page = before; answer = refused_list r }
    unfolding list_with
    list-refused e = rw e refl

    -- 'With every other refusal the number written is 0.'
    pub refused-writes-none : {r : Refusal} → ground_of map W code L S count before content ≡ some r
        → (list_with map W code L S count before content start).answer.written ≡ 0
    refused-writes-none e = ap (λ (c : Course). c.answer.written) (list-refused e)

    -- its pages are as long as the first
    turn-length : {n cost : ℕ} {page : List ℕ} → InTurn start map W code L S before content n cost page → length page ≡ length before
    turn-length none_yet = refl
    turn-length (one_more t (done e p)) = p.could.size ∙ turn-length t

    -- ONE MORE DATA keeps the promise
    turn-promised : ground_of map W code L S count before content ≡ none → Octets content → (n : ℕ) → n < count → (page : List ℕ)
        (a : ListAnswer)
        → ListPromised start (ground_of map W code L S count before content) map W code L S n before content page a
        → let c = after_one (answer_with map W code L S) (λ p one. page_with map W code L S p one start)
        (record { page = page; answer = a }) (data_of L S content n) in
        ListPromised start (ground_of map W code L S count before content) map W code L S (suc n) before content c.page c.answer
    turn-promised e b n h page a (all_written {cost} f t) =
        go _ _ (wrote_by start map W code L S page (data_of L S content n) (part-octets (L * S) n content b))
      where
        go : (after : List ℕ) (r : Answer) → WroteBy start map W code L S page (data_of L S content n) after r
            → ListPromised start (ground_of map W code L S count before content) map W code L S (suc n) before content after
            (with_write (record { written = n; cost = cost; end = E.Done }) r)
        go after r (done g p) = all_written f (one_more t (done g p))
        go after r (spent g p q) = rw q (stopped_at {n = n} f (omega arith) t (spent g p refl))
        go after r (refused g q) = absurd (one-ground (single-in-order e n h page (turn-length t)) g)
    turn-promised e b n h page a (stopped_at {n = m} f l t w) = stopped_at {n = m} f (omega arith) t w
    turn-promised e b n h page a (not_begun f q) = absurd (one-ground e f)

    -- so do the first n
    course-promised : ground_of map W code L S count before content ≡ none → Octets content → (n : ℕ) → n ≤ count
        → let c = list_course map W code L S before content start n in
        ListPromised start (ground_of map W code L S count before content) map W code L S n before content c.page c.answer
    unfolding course_after
    course-promised e b zero h = all_written e none_yet
    course-promised e b (suc n) h = turn-promised e b n (omega arith) _ _ (course-promised e b n (omega arith))

    -- THE LIST KEEPS ITS PROMISE, wherever the raises start
    pub list-promised : Octets content
        → let c = list_with map W code L S count before content start in
        ListPromised start (ground_of map W code L S count before content) map W code L S count before content c.page c.answer
    unfolding list_with
    list-promised b = go (ground_of map W code L S count before content) refl
      where
        c : Course
        c = list_course map W code L S before content start count

        go : (g : Option Refusal) → ground_of map W code L S count before content ≡ g
            → ListPromised start (ground_of map W code L S count before content) map W code L S count before content
            (unless_refused g c before).page (unless_refused g c before).answer
        go none e = course-promised e b count (omega arith)
        go (some r) e = not_begun e refl

    -- no write lowers a cell, so the first n cost what the climb to the page after them costs
    turn-climb : {n cost : ℕ} {page : List ℕ} → InTurn start map W code L S before content n cost page
        → ((c : ℕ) → c < cell_count one_bit L * S → level before c ≤ level page c)
        × (cost_of (weight_of W) (cell_count one_bit L * S) before page ≡ cost)
    unfolding job_cost
    turn-climb none_yet = (λ c h. omega arith, cost-stay (weight_of W) (cell_count one_bit L * S) before)
    turn-climb (one_more {page = page} {after} t (done e p)) =
        let i = turn-climb t in (
          λ c h. omega (arith, i.0 c h, p.could.no_lower c h),
          cost-onward (weight_of W) (cell_count one_bit L * S) before page after i.0 p.could.no_lower ∙ ap₂ ◌+◌ i.1 p.paid,
        )

    -- A LIST COSTS WHAT THE CLIMB from the first page to the last costs, wherever the raises start
    pub list-climb : Octets content
        → let c = list_with map W code L S count before content start in
        cost_of (weight_of W) (cell_count one_bit L * S) before c.page ≡ c.answer.cost
    list-climb b = go (list-promised b)
      where
        go : {page : List ℕ} {a : ListAnswer}
            → ListPromised start (ground_of map W code L S count before content) map W code L S count before content page a
            → cost_of (weight_of W) (cell_count one_bit L * S) before page ≡ a.cost
        go (all_written e t) = (turn-climb t).1
        go (stopped_at e l t w) = (turn-climb t).1
        go (not_begun e q) = rw q (cost-stay (weight_of W) (cell_count one_bit L * S) before)

    -- which is at most all three steps for each cell
    pub list-most : Octets content → (list_with map W code L S count before content start).answer.cost ≤ list_most L S W
    list-most b =
        rw (← (list-climb b), ← (one_bit-cells L))
        (cost_most (weight_of W) (cell_count one_bit L * S) before (list_with map W code L S count before content start).page)

  -- WHERE ITS JOBS ANSWER SO, and leave this page, a list in order does
  pub in-order-list : ground_of map W code L S count before content ≡ none → {G : Generators} {marks : ℕ → Bool} → G ≡ numbered code
      → marks ≡ marked_by map → {r : ListAnswer} → r ≡ (job_course marks G W L S count before content).answer
      → {after : List ℕ} → after ≡ (job_course marks G W L S count before content).page
      → (r ≡ list_answer map W code L S count before content) × (after ≡ list_page map W code L S count before content)
  in-order-list e {G} {marks} g m f h =
      let z = course-alike (λ p q. (p ≡ q) × (length q ≡ length before))
      (λ p one. job_answer none (one_bit_job marks G W L S p one)) (answer_with map W code L S)
      (λ p one. job_page none (one_bit_job marks G W L S p one) start_of) (λ p one. page_with map W code L S p one start_of)
      (data_of L S content) count turn (refl, refl) count (omega arith) in
      let w = list-course start_of e in
      (f ∙ z.0 ∙ ap (λ (c : Course). c.answer) (sym w), h ∙ z.1.0 ∙ ap (λ (c : Course). c.page) (sym w))
    where
      turn : (n : ℕ) → n < count → (p q : List ℕ) → (p ≡ q) × (length q ≡ length before)
          → (job_answer none (one_bit_job marks G W L S p (data_of L S content n)) ≡ answer_with map W code L S q (data_of L S content n))
          × ((job_page none (one_bit_job marks G W L S p (data_of L S content n)) start_of
          ≡ page_with map W code L S q (data_of L S content n) start_of)
          × (length (page_with map W code L S q (data_of L S content n) start_of) ≡ length before))
      turn n h p q r =
          let z = in-order-job start_of map W code L S q (data_of L S content n) (single-in-order e n h q r.1) g m in
          (rw r.0 z.0, (rw r.0 z.1, page-length start_of map W code L S q (data_of L S content n) ∙ r.1))

  -- HOW LARGE THE FIELDS of its answer are, with weights of three bytes
  pub list-bounds : Weights W → Octets content → ListBounds (list_answer map W code L S count before content)
  unfolding weight_of
  list-bounds K b = go (list-promised start_of b) (list-most start_of b)
    where
      -- at most 64 datas
      most : ground_of map W code L S count before content ≡ none → count ≤ 64
      most e = (one-to-64 count (count-in-order count (map_size map) W code L S (length before) (length content) e)).1

      -- three steps of 255 or less for each of 65,536 cells at the most
      largest : ground_of map W code L S count before content ≡ none → list_most L S W ≤ largest_list_cost
      largest e =
          let i = weighted-in-order (some count) (map_size map) W code L S (length before) (length content) e in
          let c = cells-most L S (weight_of W 0 + weight_of W 1 + weight_of W 2) i.bytes_in i.strips_in in
          omega (arith, K.bytes 0, K.bytes 1, K.bytes 2)

      go : {page : List ℕ} {a : ListAnswer} → WroteList map W code L S count before content page a → a.cost ≤ list_most L S W
          → ListBounds a
      go (all_written e t) c = record { written_most = most e; cost_most = omega (arith, largest e); strip_most = omega arith }
      go (stopped_at e l t (spent g p q)) c = record {
        written_most = omega (arith, most e);
        cost_most = omega (arith, largest e);
        strip_most = omega (
          arith,
          p.inside,
          one-to-64 S (weighted-in-order (some count) (map_size map) W code L S (length before) (length content) e).strips_in,
        );
      }
      go (not_begun e q) c = record { written_most = omega arith; cost_most = omega arith; strip_most = omega arith }

-- a list that is refused answers so, and changes nothing
pub refused-list : (map : Option (List ℕ)) (W : List ℕ) (code L S count : ℕ) (before content : List ℕ) {r : Refusal}
    → ground_of map W code L S count before content ≡ some r
    → (refused_list r ≡ list_answer map W code L S count before content) × (before ≡ list_page map W code L S count before content)
refused-list map W code L S count before content e =
    let w = list-refused map W code L S count before content start_of e in
    (sym (ap (λ (c : Course). c.answer) w), sym (ap (λ (c : Course). c.page) w))

-- A LIST that answers so and leaves this page keeps its promise and the bounds
pub list-kept : (map : Option (List ℕ)) (W : List ℕ) (code L S count : ℕ) (before content : List ℕ) {after : List ℕ} {r : ListAnswer}
    → Weights W → Octets content → after ≡ list_page map W code L S count before content
    → r ≡ list_answer map W code L S count before content
    → WroteList map W code L S count before content after r × ListBounds r
list-kept map W code L S count before content K b p e =
    rw (p, e) (list-promised map W code L S count before content start_of b, list-bounds map W code L S count before content K b)
