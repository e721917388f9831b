-- One turn of the loops over a page's strips: what is lent, the strip's outcome, and what the total, the digits and the page are after it.
-- Then what the whole write makes of that.
--   job-sized                     a job and a page of its length are in order
--   table-priced                  the table of a call's weights
--   turn-shaped, turn-outcome     what a turn lends is in order, and its outcome is that of the strip's write
--   PlannedTo, planned-more       the plans of the strips before k
--   Reached, reached-more, ..     the total after k strips
--   CarriedUpTo, carried-more     the page with the digits of the strips before k carried out
--   done-page, kept-page, spent-page, not-refused   the page that a write leaves, and that it is not refused
use mathlib.Core.Path.{◌≡◌, refl, sym, ◌∙◌, ap}
use mathlib.Core.Bool.{true}
use mathlib.Core.List.{List, ◌++◌}
use mathlib.Core.Option.{Option, none, some}
use Prim.Native.Nat.{ℕ, suc, ◌+◌, ◌*◌, ◌-◌, ◌<◌, ◌≤◌}
use native.Mathlib.Omega.{arith}
use native.Mathlib.Nat.{not-suc-le-zero, sub-zero}
use lib.ListN.{length, take, drop, length-append}
use lib.Seq.{drop-drop, take_at, drop_at, length-take-le}
use Rattle.std.specs.Prelude as Std
use Rattle.cells.specs.Marks.{marks_in}
use Rattle.cells.specs.Raising.{start_of, start_in, raised_to}
use Rattle.cells.proofs.Raising.{raised_to-length}
use Rattle.cells.proofs.Parts.{within}
use Rattle.codes.specs.Generators.{Generators}
use Rattle.codes.specs.Layouts.{Layout, one_bit, cell_count, byte_count}
use Rattle.search.specs.Best.{Solution}
use Rattle.search.specs.Strip.{Dear, steps_of}
use Rattle.search.specs.Levels.{level_at}
use Rattle.prices.specs.Prices.{Table, Priced}
use Rattle.trellis.specs.Ways.{Shaped}
use Rattle.carrying.specs.Carrying.{digit_in, carried_to}
use Rattle.trellis.specs.Outcomes.{solution_outcome}
use Rattle.trellis.specs.Plans.{write_of, Plans}
use Rattle.trellis.proofs.Ways.{Suits}
use Rattle.demand.specs.Jobs.{part, Job}
use Rattle.demand.specs.Computed.{strip_write, page_write, spent_strip}
use Rattle.demand.proofs.Jobs.{part_length}
use Rattle.page_parts.specs.Shape.{strip_of, Sized, map_part, strip_part}
use Rattle.page_answers.specs.Totals.{no_total, added, total_from, answer_for}
use Rattle.page_promises.specs.Writes.{call_answer, call_page, one_bit_job, job_answer, job_page}
use Rattle.page_rewriting.specs.Plans.{Planned, Carried}
use Rattle.page_rewriting.specs.declared.Job.{Job as Rewriting}
use Rattle.refusals.specs.declared.Refusal.{Refusal}
use Rattle.page_answers.specs.declared.Total.{Total}
use Rattle.page_answers.specs.declared.Answer.{Answer}
use Rattle.page_answers.specs.declared.Answer.TheVariants as A
use Rattle.page_parts.proofs.Strips.{strip-there, part-more, lent, lent_length, stored-length}
use Rattle.refusals.proofs.Refusals.{one-to-64, product-most}
use Rattle.page_rewriting.proofs.Totals.{page-answers, total-spent, total-same}
use Rattle.page_rewriting.proofs.Plans.{write_same, carried-page}
use Rattle.page_promises.proofs.Plans.{strip-below}

-- A JOB and a page of its length are in order
pub job-sized : (J : Rewriting) {page : List ℕ} → length page ≡ byte_count one_bit J.bytes * J.strips
    → Sized one_bit J.bytes J.strips page J.«data».now
job-sized J e = record { bytes_in = J.bytes_in; strips_in = J.strips_in; page_is = e; data_is = J.data_is }

-- LENT PARTS. In a turn the strip ends within the page
pub strip-fits : {lay : Layout} {L S : ℕ} {page content : List ℕ} → Sized lay L S page content → {k : ℕ} → k < S
    → byte_count lay L * k + byte_count lay L ≤ length page
strip-fits {lay} {L} {S} Z {k} h = omega (arith, Z.page_is, within (byte_count lay L) k S h)

-- and its part within the data
pub part-fits : {lay : Layout} {L S : ℕ} {page content : List ℕ} → Sized lay L S page content → {k : ℕ} → k < S → L * k + L ≤ length content
part-fits {lay} {L} {S} Z {k} h = omega (arith, Z.data_is, within L k S h)

-- L and the strip's number are within their limits
pub lent-limits : {lay : Layout} {L S : ℕ} {page content : List ℕ} → Sized lay L S page content → {k : ℕ} → k < S → (L ≤ 64) × (k < 64)
lent-limits {L = L} {S = S} Z h = ((one-to-64 L Z.bytes_in).1, omega (arith, (one-to-64 S Z.strips_in).1))

-- THE TABLE of weights that suit a code, none of them free
pub table-priced : {G : Generators} {W rows : List ℕ} → Suits G W → Dear (steps_of W) → Table W rows → Priced W rows
table-priced K D T = record { weights = K.weights; dear = D; table = T }

-- THE PLANS of the strips before k
pub record PlannedTo (G : Generators) (W : List ℕ) (L S : ℕ) (page map content digits : List ℕ) (k : ℕ) : Type 0 where
  pub size : length digits ≡ L * S
  pub so_far : (j : ℕ) → j < k → Plans G W (strip_part L j page) (marks_in (map_part L j map)) (part L j content) (part L j digits)

-- at first
pub planned-none : {G : Generators} {W : List ℕ} {L S : ℕ} {page map content digits : List ℕ} → length digits ≡ L * S
    → PlannedTo G W L S page map content digits 0
planned-none e = record { size = e; so_far = λ j h. absurd (not-suc-le-zero h) }

-- TURN k, with the strip x that `strip` gave, its part m of the map and its part y of the data
module _ {L S : ℕ} {page content : List ℕ} (map : List ℕ) (Z : Sized one_bit L S page content) {k : ℕ} (h : k < S) {x m y : List ℕ}
    (is : x ≡ strip_of L k page) (marked : m ≡ map_part L k map) (own : y ≡ part L k content) where
  -- it is strip k
  strip-is : x ≡ strip_part L k page
  strip-is = is ∙ strip-there L S k page Z.bytes_in Z.page_is h

  -- its part of the data has L bytes
  pub data-length : length y ≡ L
  data-length = ap length own ∙ part_length L S k content Z.data_is h

  -- the strip and the part are in order
  pub turn-shaped : {W rows : List ℕ} → Table W rows → Shaped rows x y
  turn-shaped T = record {
    cut = T.cut;
    size = ap length strip-is ∙ part_length (byte_count one_bit L) S k page Z.page_is h ∙ ap (byte_count one_bit) (sym data-length);
    most = omega (arith, data-length, one-to-64 L Z.bytes_in);
  }

  -- its outcome is that of the strip's write
  pub turn-outcome : {G : Generators} {W : List ℕ} {o : Std.Option ℕ} → Suits G W → Dear (steps_of W)
      → o ≡ solution_outcome (write_of G W x (marks_in m) y)
      → o ≡ solution_outcome (strip_write (one_bit_job (marks_in map) G W L S page content) k)
  turn-outcome {G} {W} K D e =
      (rw (own, strip-is, marked) at e)
      ∙ ap solution_outcome
      (write_same G W K D L S (one-to-64 L Z.bytes_in).1 page map content k (part_length L S k content Z.data_is h))

  -- with its digits the strips before it and it are planned
  pub planned-more : {G : Generators} {W digits ys : List ℕ} → PlannedTo G W L S page map content digits k
      → (length ys ≡ length (take (L * k + L - L * k) (drop (L * k) digits))) × Plans G W x (marks_in m) y ys
      → PlannedTo G W L S page map content (take (L * k) digits ++ (ys ++ drop (L * k + L - L * k) (drop (L * k) digits))) (k + 1)
  planned-more {G} {W} {digits} {ys} p e =
      let fits : L * k + L ≤ length digits = omega (arith, p.size, within L k S h) in
      let long : length ys ≡ L = e.0 ∙ lent_length L k digits fits in
      let plans : Plans G W (strip_part L k page) (marks_in (map_part L k map)) (part L k content) ys =
      rw (own, strip-is, marked) at e.1 in
      record {
        size = stored-length L k digits ys fits long ∙ p.size;
        so_far = part-more L k digits ys (λ j. Plans G W (strip_part L j page) (marks_in (map_part L j map)) (part L j content))
            fits long plans p.so_far;
      }

-- THE TOTAL after k strips: with the outcomes of the others it comes to the page's answer
pub record Reached (J : Job) (total : Total) (k : ℕ) : Type 0 where
  pub comes-to : answer_for (total_from total (λ i. solution_outcome (strip_write J (k + i))) (J.strips - k)) ≡ job_answer none J

-- at first
pub reached-none : {G : Generators} {W : List ℕ} {L S : ℕ} {page : List ℕ} (map : List ℕ) {content : List ℕ} → Suits G W → Dear (steps_of W)
    → Sized one_bit L S page content → {t : Total}
    → t ≡ no_total → Reached (one_bit_job (marks_in map) G W L S page content) t 0
unfolding job_answer
reached-none {G} {W} {L} {S} {page} map {content} K D Z e =
    let J : Job = one_bit_job (marks_in map) G W L S page content in
    record {
      comes-to =
          rw (e, sub-zero S)
          (ap answer_for
          (total-same no_total _ (λ i. solution_outcome (strip_write J i)) S
          (λ i h. ap (λ (j : ℕ). solution_outcome (strip_write J j)) (omega arith)))
          ∙ page-answers J (one-to-64 S Z.strips_in).1
          (λ k h a. strip-below G W K D L S (one-to-64 L Z.bytes_in).1 page (marks_in map) content k a));
    }

module _ {J : Job} where
  -- with one more strip
  pub reached-more : {t u : Total} {k : ℕ} {o : Std.Option ℕ} → Reached J t k → k < J.strips → o ≡ solution_outcome (strip_write J k)
      → u ≡ added t o → Reached J u (k + 1)
  unfolding total_from
  reached-more {t} {u} {k} {o} r h e f =
      let s : J.strips - k ≡ suc (J.strips - (k + 1)) = omega arith in
      let e₀ : o ≡ solution_outcome (strip_write J (k + 0)) = e ∙ ap (λ (j : ℕ). solution_outcome (strip_write J j)) (omega arith) in
      record {
        comes-to =
            ap answer_for
            (total-same u _ (λ i. solution_outcome (strip_write J (k + suc i))) (J.strips - (k + 1))
            (λ i l. ap (λ (j : ℕ). solution_outcome (strip_write J j)) (omega arith)))
            ∙ rw (f, e₀) (rw s at r.comes-to);
      }

  -- a total that is spent answers
  pub reached-spent : {t : Total} {k : ℕ} {r : Answer} → Reached J t k → t.spent ≡ true → r ≡ answer_for t → r ≡ job_answer none J
  reached-spent {t} {k} g e f = f ∙ sym (ap answer_for (total-spent t _ (J.strips - k) e)) ∙ g.comes-to

  -- and the page has no write
  pub spent-none : {t : Total} {k : ℕ} → Reached J t k → t.spent ≡ true → (a : Solution) → page_write J ≡ some a → ⊥
  unfolding job_answer
  spent-none {t} g e a f =
      let s : A.Spent t.strips ≡ call_answer none (some a) (spent_strip J) = rw (e, f) at (reached-spent g e refl) in
      let z : ◌≡◌ {A = ℕ} 0 1 = cc in omega arith

  -- after all strips it answers
  pub reached-all : {t : Total} {k : ℕ} {r : Answer} → Reached J t k → J.strips ≤ k → r ≡ answer_for t → r ≡ job_answer none J
  unfolding total_from
  reached-all {k = k} g h f = let z : J.strips - k ≡ 0 = omega arith in f ∙ (rw z at g.comes-to)

-- THE PAGE with the digits of the strips before k carried out
pub record CarriedUpTo (G : Generators) (L S : ℕ) (before content digits page : List ℕ) (k : ℕ) : Type 0 where
  pub size : length page ≡ length before
  pub so_far : (j : ℕ) → j < k
      → strip_part L j page
      ≡ raised_to start_of (strip_part L j before) (carried_to G (strip_part L j before) (part L j content) (digit_in (part L j digits)))
  pub rest : drop (byte_count one_bit L * k) page ≡ drop (byte_count one_bit L * k) before

-- what is left of a list after part k is stored is what was left of the list before
rest_more : (w k : ℕ) (x y before : List ℕ) → w * k + w ≤ length x → length y ≡ w → drop (w * k) x ≡ drop (w * k) before
    → drop (w * (k + 1)) (take (w * k) x ++ (y ++ drop (w * k + w - w * k) (drop (w * k) x))) ≡ drop (w * (k + 1)) before
rest_more w k x y before h l e =
    let n : w * (k + 1) ≡ w * k + w = omega arith in
    let m : w * k + w - w * k ≡ w = omega arith in
    rw (
      n,
      m,
      ← drop-drop w (w * k) (take (w * k) x ++ (y ++ drop w (drop (w * k) x))),
      drop_at (take (w * k) x) (y ++ drop w (drop (w * k) x)) (w * k) (length-take-le (w * k) x (omega arith)),
      drop_at y
          (drop w (drop (w * k) x)) w l,
      e,
    )
    (drop-drop w (w * k) before)

-- at first
pub carried-nothing : {G : Generators} {L S : ℕ} {before content digits : List ℕ} → CarriedUpTo G L S before content digits before 0
carried-nothing = record { size = refl; so_far = λ j h. absurd (not-suc-le-zero h); rest = refl }

-- with one more strip, where b is the bytes of a strip, and u and v are its parts of the data and of the digits
pub carried-more : {G : Generators} {L S b : ℕ} {before content digits page ys u v : List ℕ} {k : ℕ}
    → CarriedUpTo G L S before content digits page k
    → b ≡ byte_count one_bit L → length before ≡ byte_count one_bit L * S → k < S → u ≡ part L k content → v ≡ part L k digits
    → ys ≡ raised_to start_of (take (b * k + b - b * k) (drop (b * k) page))
    (carried_to G (take (b * k + b - b * k) (drop (b * k) page)) u (digit_in v))
    → CarriedUpTo G L S before content digits (take (b * k) page ++ (ys ++ drop (b * k + b - b * k) (drop (b * k) page))) (k + 1)
unfolding part
carried-more {G} {L} {S} {b} {before} {content} {digits} {page} {ys} {u} {v} {k} p q z h f g e = rw q (go (rw (q, f, g) at e))
  where
    n : ℕ
    n = byte_count one_bit L

    go : ys ≡ raised_to start_of (take (n * k + n - n * k) (drop (n * k) page))
        (carried_to G (take (n * k + n - n * k) (drop (n * k) page)) (part L k content) (digit_in (part L k digits)))
        → CarriedUpTo G L S before content digits (take (n * k) page ++ (ys ++ drop (n * k + n - n * k) (drop (n * k) page))) (k + 1)
    go e =
        let own = rw (lent n k page, p.rest) at e in
        let own-length : length ys ≡ n = ap length own ∙ raised_to-length start_of _ _ ∙ part_length n S k before z h in
        let fits : n * k + n ≤ length page = omega (arith, p.size, within n k S h) in
        record {
          size = stored-length n k page ys fits own-length ∙ p.size;
          so_far = part-more n k page ys
              (λ j y. y ≡ raised_to start_of (strip_part L j before)
              (carried_to G (strip_part L j before) (part L j content) (digit_in (part L j digits))))
              fits own-length own p.so_far;
          rest = rest_more n k page ys before fits own-length p.rest;
        }

-- THE DIGITS of all strips are at most 4,096 bytes
pub whole-most : {L S : ℕ} {page content : List ℕ} → Sized one_bit L S page content → L * S ≤ 4096
whole-most {L} {S} Z = product-most L S Z.bytes_in Z.strips_in

-- the first n places of a list
pub front_length : (n : ℕ) (x : List ℕ) → n ≤ length x → length (take (n - 0) x) ≡ n
front_length n x h = rw (sub-zero n) (length-take-le n x h)

-- lie within it where they were stored there
pub front_fits : (n : ℕ) (y rest : List ℕ) → length y ≡ n → n ≤ length (y ++ rest)
front_fits n y rest e = omega (arith, length-append y rest)

-- and hold what was
pub front-back : (n : ℕ) (y rest : List ℕ) → length y ≡ n → take (n - 0) (y ++ rest) ≡ y
front-back n y rest e = rw (sub-zero n) (take_at y rest n e)

-- THE PAGE that a write leaves, by the plans' answer
module _ {G : Generators} {W : List ℕ} (K : Suits G W) (D : Dear (steps_of W)) {L S : ℕ} {before : List ℕ} (map : List ℕ) {content : List ℕ}
    (Z : Sized one_bit L S before content)
    {r : Answer} (e : r ≡ job_answer none (one_bit_job (marks_in map) G W L S before content)) where
  -- the job
  abbrev J : Job
  J = one_bit_job (marks_in map) G W L S before content

  -- the page raised to the levels of a write
  abbrev raised : Solution → List ℕ
  raised a = raised_to (start_in start_of (cell_count one_bit L)) before (level_at a.levels)

  -- where it is done, each strip is carried out as it was planned
  pub done-page : {digits after : List ℕ} {cost : ℕ} → r ≡ A.Done cost → Planned G W L S before map content digits
      → Carried G L S before content digits after
      → after ≡ job_page none (one_bit_job (marks_in map) G W L S before content) start_of
  unfolding job_page job_answer
  done-page {digits} {after} {cost} f p c = go (page_write J) refl
    where
      go : (w : Option Solution) → page_write J ≡ w → after ≡ call_page none w raised before
      go (some a) q = carried-page G W K D L S (one-to-64 L Z.bytes_in).1 before map content Z.page_is Z.data_is digits
          after a q p c
      go none q = absurd (let z : ◌≡◌ {A = ℕ} 0 1 = cc in omega arith)

  -- else nothing is changed
  pub kept-page : ((cost : ℕ) → r ≡ A.Done cost → ⊥) → before ≡ job_page none (one_bit_job (marks_in map) G W L S before content) start_of
  unfolding job_page job_answer
  kept-page f = go (page_write J) e
    where
      go : (w : Option Solution) → r ≡ call_answer none w (spent_strip J) → before ≡ call_page none w raised before
      go none h = refl
      go (some a) h = absurd (f a.cost h)

  -- so where it is spent
  pub spent-page : {n : ℕ} → r ≡ A.Spent n → before ≡ job_page none (one_bit_job (marks_in map) G W L S before content) start_of
  spent-page f = kept-page (λ cost d. let z : ◌≡◌ {A = Answer} (A.Spent _) (A.Done cost) = sym f ∙ d in absurd (let y : ⊥ = cc in y))

  -- and it is not refused
  pub not-refused : {q : Refusal} → r ≡ A.Refused q → ⊥
  unfolding job_answer
  not-refused {q} f = go (page_write J) e
    where
      go : (w : Option Solution) → r ≡ call_answer none w (spent_strip J) → ⊥
      go none h = let z : ◌≡◌ {A = ℕ} 0 1 = cc in omega arith
      go (some a) h = let z : ◌≡◌ {A = ℕ} 0 1 = cc in omega arith
