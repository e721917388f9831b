-- A LIST AND ITS SINGLE WRITES, as calls on the page.
--   played-last      the page after one more call
--   singles          the first datas of a list as single writes
--   list-as-writes   a list leaves the page that the writes which it counts leave, and its raises are theirs
--   list-costs       these are done, and their costs add up to its cost
--   list-of-one      a list of one data is the single write
use mathlib.Core.Path.{◌≡◌, refl, sym, ◌∙◌, ap, ap₂}
use mathlib.Core.List.{List, [], ◌∷◌, ◌++◌}
use mathlib.Core.Option.{Option, none, some}
use Prim.Native.Nat.{ℕ, zero, suc, ◌<◌, ◌+◌, ◌*◌, ◌-◌}
use native.Mathlib.Nat.{not-suc-le-zero}
use native.Mathlib.Omega.{arith}
use lib.ListN.{length}
use borrow.Author.Count.{below_more}
use Rattle.cells.specs.Places.{list_of, sum_of}
use Rattle.cells.specs.Bytes.{Octets}
use Rattle.cells.specs.Levels.{level}
use Rattle.cells.proofs.Places.{list_of-same, sum_of-more, sum_of-zero}
use Rattle.demand.proofs.Jobs.{part-octets}
use Rattle.demand.proofs.Demand.{part-zero}
use Rattle.refusals.proofs.Refusals.{weighted-in-order}
use Rattle.page_promises.specs.Writes.{map_size, ground_with, job_with, answer_with, page_with}
use Rattle.page_answers.specs.Answers.{answer_cost}
use Rattle.page_promises.specs.Promise.{Promised, spent, refused}
use Rattle.page_promises.specs.Lists.{data_of, with_write, none_written, Course, after_one, course_after}
use Rattle.page_promises.specs.Lists.{unless_refused, ground_of, list_course, list_with}
use Rattle.page_ledger.specs.Ledger.{cells_on, raises_made, raised, Fair, fair_raise, page_after, counted, Call, list, event_of}
use Rattle.page_ledger.specs.Ledger.{Reply, to_write, answer_to, played, tally, tallied, answered, writes_of}
use Rattle.refusals.specs.declared.Refusal.{Refusal}
use Rattle.page_answers.specs.declared.Answer.{Answer}
use Rattle.page_answers.specs.declared.Answer.TheVariants as A
use Rattle.page_answers.specs.declared.End.{End}
use Rattle.page_answers.specs.declared.End.TheVariants as E
use Rattle.page_promises.proofs.Promise.{wrote_by}
use Rattle.page_promises.proofs.Lists.{course_at}
use Rattle.page_ledger.proofs.Ledger.{fair-onward, raises-onward, write-fair}

-- SEQUENCES. The page after one more call
pub played-last : (starts : ℕ → ℕ → ℕ) (f : ℕ → Call) (n : ℕ) (page : List ℕ)
    → played starts (list_of (suc n) f) page
    ≡ page_after (event_of (starts n) (f n) (played starts (list_of n f) page)) (played starts (list_of n f) page)
unfolding played list_of
played-last starts f zero page = refl
played-last starts f (suc n) page = played-last (λ n. starts (suc n)) (λ i. f (suc i)) n _

-- the count after it
tallied-last : (starts : ℕ → ℕ → ℕ) (f : ℕ → Call) (n : ℕ) (page : List ℕ) (k : ℕ)
    → tallied starts (list_of (suc n) f) page k
    ≡ counted (event_of (starts n) (f n) (played starts (list_of n f) page)) (played starts (list_of n f) page)
    (tallied starts (list_of n f) page k)
unfolding played tally list_of
tallied-last starts f zero page k = refl
tallied-last starts f (suc n) page k = tallied-last (λ n. starts (suc n)) (λ i. f (suc i)) n _ _

-- the answers of calls that have one each
answered-each : (starts : ℕ → ℕ → ℕ) (f : ℕ → Call) (g : ℕ → List ℕ → Reply)
    → ((i : ℕ) (p : List ℕ) → answer_to (starts i) (f i) p ≡ g i p ∷ []) → (n : ℕ) (page : List ℕ)
    → answered starts (list_of n f) page ≡ list_of n (λ i. g i (played starts (list_of i f) page))
unfolding played answered list_of
answered-each starts f g e zero page = refl
answered-each starts f g e (suc n) page =
    ap₂ ◌++◌ (e 0 page) (answered-each (λ n. starts (suc n)) (λ i. f (suc i)) (λ i. g (suc i)) (λ i. e (suc i)) n _)

module _ (start : ℕ → ℕ) (map : Option (List ℕ)) (W : List ℕ) (code L S : ℕ) (page content : List ℕ) (b : Octets content) where
  -- SINGLE WRITES: the first n datas
  abbrev pub singles : ℕ → List Call
  singles n = writes_of map W code L S content (λ i. part-octets (L * S) i content b) n

  -- the page after them
  abbrev page_at : ℕ → List ℕ
  page_at n = played (λ n. start) (singles n) page

  -- and after one more
  page-next : (n : ℕ) → page_at (suc n) ≡ page_with map W code L S (page_at n) (data_of L S content n) start
  unfolding writes_of event_of
  page-next n = played-last (λ n. start) _ n page

  -- before the first of them
  page-first : page_at 0 ≡ page
  unfolding writes_of played list_of
  page-first = refl

  -- no raise is counted
  none-counted : (k : ℕ) → tallied (λ n. start) (singles 0) page k ≡ k + raises_made page page
  unfolding writes_of tally list_of raises_made
  none-counted k = omega (arith, sum_of-zero (cells_on page) (λ c. level page c - level page c) (λ c h. omega arith))

  -- they lower no cell, and their raises are those from the page before them to the page after them
  singles-counted : (n k : ℕ)
      → Fair 0 page (raised (page_at n)) × (tallied (λ n. start) (singles n) page k ≡ k + raises_made page (page_at n))
  unfolding writes_of event_of
  singles-counted zero k = rw page-first (fair_raise {after = page} refl (λ c h. omega arith), none-counted k)
  singles-counted (suc n) k =
      let i = singles-counted n k in
      let o = part-octets (L * S) n content b in
      let f = write-fair map W code L S (page_at n) (data_of L S content n) o 0
      (wrote_by start map W code L S (page_at n) (data_of L S content n) o) in
      rw (page-next n)
      (fair-onward i.0 f, tallied-last (λ n. start) _ n page k ∙ omega (arith, i.1, raises-onward i.0 f))

  -- what the write of data i costs
  abbrev pub cost_at : ℕ → ℕ
  cost_at i = answer_cost (answer_with map W code L S (page_at i) (data_of L S content i))

  -- COURSES. The writes that a course counts are done, leave its page and cost its sum
  record ByWrites (c : Course) : Type 0 where
    left : page_at c.answer.written ≡ c.page
    each : (i : ℕ) → i < c.answer.written → answer_with map W code L S (page_at i) (data_of L S content i) ≡ A.Done (cost_at i)
    sum : sum_of c.answer.written cost_at ≡ c.answer.cost

  -- and after n datas it counts all of them where it goes on
  abbrev After : ℕ → Course → Type 0
  After n c = (c.answer.end ≡ E.Done → c.answer.written ≡ n) × ByWrites c

  -- with one more data
  one-after : (n : ℕ) (p : List ℕ) (w cost : ℕ) (end : End) → After n (course_at p w cost end)
      → After (suc n) (after_one (answer_with map W code L S) (λ page one. page_with map W code L S page one start) (course_at p w cost end)
      (data_of L S content n))
  one-after n p w cost E.Done (g, s) =
      more _ refl (wrote_by start map W code L S p (data_of L S content n) (part-octets (L * S) n content b))
    where
      -- the page so far
      here : page_at n ≡ p
      here = ap page_at (sym (g refl)) ∙ s.left

      more : (r : Answer) → answer_with map W code L S p (data_of L S content n) ≡ r
          → Promised start (ground_with map W code L S p (data_of L S content n)) (job_with map W code L S p (data_of L S content n))
          (page_with map W code L S p (data_of L S content n) start) r
          → After (suc n) (record {
            page = page_with map W code L S p (data_of L S content n) start;
            answer = with_write (course_at p w cost E.Done).answer r;
          })
      more (A.Done c) f q =
          let z : suc w ≡ suc n = ap suc (g refl) in
          let a = rw (sym here) at f in (
            λ e. z,
            record {
              left = ap page_at z ∙ page-next n ∙ ap (λ (x : List ℕ). page_with map W code L S x (data_of L S content n) start) here;
              each = λ i h. below_more _ w s.each (rw (g refl, a) refl) i (omega arith);
              sum = ap (λ (m : ℕ). sum_of m cost_at) z ∙ sum_of-more n cost_at
                  ∙ ap₂ ◌+◌ (ap (λ (m : ℕ). sum_of m cost_at) (sym (g refl)) ∙ s.sum) (ap answer_cost a);
            },
          )
      more (A.Spent k) h (spent e q f) = (λ e. cc, record { left = s.left ∙ sym f; each = s.each; sum = s.sum })
      more (A.Refused r) h (refused e f) = (λ e. cc, record { left = s.left ∙ sym f; each = s.each; sum = s.sum })
  one-after n p w cost (E.Spent k) (g, s) = (λ e. cc, s)
  one-after n p w cost (E.Refused r) (g, s) = (λ e. cc, s)

  -- with none
  none_after : {r : End} → ByWrites (course_at page 0 0 r)
  unfolding sum_of
  none_after = record { left = page-first; each = λ i h. absurd (not-suc-le-zero h); sum = refl }

  -- so with any number
  course-after : (n : ℕ) → After n (list_course map W code L S page content start n)
  unfolding course_after
  course-after zero = (λ e. refl, none_after)
  course-after (suc n) = one-after n _ _ _ _ (course-after n)

  -- THE LIST of so many datas
  abbrev pub outcome : ℕ → Course
  outcome count = list_with map W code L S count page content start

  -- on every input: a refused one counts no write
  list-after : (count : ℕ) → ByWrites (outcome count)
  unfolding list_with
  list-after count = go (ground_of map W code L S count page content)
    where
      go : (g : Option Refusal) → ByWrites (unless_refused g (list_course map W code L S page content start count) page)
      go none = (course-after count).1
      go (some r) = none_after

  -- THE LEDGER COUNTS IT AS ITS WRITES: it leaves the page that they leave, and its raises are theirs
  pub list-as-writes : (count : ℕ)
      → (played (λ n. start) (singles (outcome count).answer.written) page
      ≡ page_after (event_of start (list map W code L S count content b) page) page)
      × ((n : ℕ) → tallied (λ n. start) (singles (outcome count).answer.written) page n
      ≡ counted (event_of start (list map W code L S count content b) page) page n)
  unfolding event_of
  list-as-writes count = (
    (list-after count).left,
    λ n. (singles-counted _ n).1 ∙ ap (λ (after : List ℕ). n + raises_made page after) (list-after count).left,
  )

  -- each of them is done, and their costs add up to the list's
  pub list-costs : (count : ℕ)
      → (answered (λ n. start) (singles (outcome count).answer.written) page
      ≡ list_of (outcome count).answer.written (λ i. to_write (A.Done (cost_at i))))
      × (sum_of (outcome count).answer.written cost_at ≡ (outcome count).answer.cost)
  unfolding writes_of
  list-costs count = (
    answered-each (λ n. start) _ _ (λ i p. refl) _ page ∙ list_of-same _ _ _ (λ i h. ap to_write ((list-after count).each i h)),
    (list-after count).sum,
  )

-- A LIST OF ONE DATA without a ground is the single write: the page after it, and its answer
pub list-of-one : (start : ℕ → ℕ) (map : Option (List ℕ)) (W : List ℕ) (code L S : ℕ) (before content : List ℕ)
    → ground_of map W code L S 1 before content ≡ none
    → ((list_with map W code L S 1 before content start).page ≡ page_with map W code L S before content start)
    × ((list_with map W code L S 1 before content start).answer ≡ with_write none_written (answer_with map W code L S before content))
unfolding list_with course_after
list-of-one start map W code L S before content e =
    let l = (weighted-in-order (some 1) (map_size map) W code L S (length before) (length content) e).data_is in
    let k : length content ≡ L * S = omega arith in
    rw (e, part-zero (L * S) content k) (refl, refl)
