-- The running total over all strips answers as the page's write does: the sum of the costs, or the first strip that is spent.
--   total-spent     once spent a total stays
--   total-same      outcomes that agree make the same total
--   total-answers   what a total answers after n more strips
--   page-answers    the total over a page's strips answers as its write does
--   page-below      a page's write costs at most 64 times closed
use mathlib.Core.Path.{◌≡◌, refl, ◌∙◌, ap, ap₂}
use mathlib.Core.Bool.{Bool, true, false}
use mathlib.Core.Option.{Option, none, some}
use Prim.Native.Nat.{ℕ, zero, suc, ◌<◌, ◌≤◌, ◌+◌, ◌*◌, ◌%◌, ◌^◌}
use native.Mathlib.Omega.{arith}
use native.Mathlib.Nat.{mod-eq_of_lt}
use Rattle.std.specs.Prelude.{Some, None}
use Rattle.std.specs.Prelude as Std
use Rattle.cells.specs.Places.{list_of}
use Rattle.search.specs.Best.{Solution}
use Rattle.search.specs.Trellis.{joined, free, all, first-none}
use Rattle.stages.specs.Stage.{closed}
use Rattle.trellis.specs.Outcomes.{solution_outcome}
use Rattle.page_answers.specs.Totals.{no_total, with_outcome, unless_spent, added, total_from, spent_or_done, answer_for}
use Rattle.page_promises.specs.Writes.{call_answer, job_answer}
use Rattle.page_answers.specs.Answers.{answer_cost}
use Rattle.demand.specs.Jobs.{Job}
use Rattle.demand.specs.Computed.{strip_write, page_write, spent_strip}
use Rattle.page_answers.specs.declared.Total.{Total}
use Rattle.page_answers.specs.declared.Answer.{Answer}
use Rattle.page_answers.specs.declared.Answer.TheVariants as A

-- once spent a total stays
pub total-spent : (t : Total) (f : ℕ → Std.Option ℕ) (n : ℕ) → t.spent ≡ true → total_from t f n ≡ t
unfolding total_from
total-spent t f zero e = refl
total-spent t f (suc n) e = let s : added t (f 0) ≡ t = ap (λ (b : Bool). unless_spent b t (with_outcome t (f 0))) e in
    ap (λ (u : Total). total_from u (λ i. f (suc i)) n) s ∙ total-spent t (λ i. f (suc i)) n e

-- outcomes that agree make the same total
pub total-same : (t : Total) (f g : ℕ → Std.Option ℕ) (n : ℕ) → ((i : ℕ) → i < n → f i ≡ g i) → total_from t f n ≡ total_from t g n
unfolding total_from
total-same t f g zero e = refl
total-same t f g (suc n) e = ap (λ (o : Std.Option ℕ). total_from (added t o) (λ i. f (suc i)) n) (e 0 (omega arith))
    ∙ total-same (added t (g 0)) (λ i. f (suc i)) (λ i. g (suc i)) n (λ i h. e (suc i) (omega arith))

-- a total that has room for n more strips
pub record Room (t : Total) (n : ℕ) : Type 0 where
  pub unspent : t.spent ≡ false
  pub cost-room : t.cost + n * closed < 2 ^ 32
  pub strip-room : t.strips + n < 2 ^ 32

-- what it answers after n more strips, whose writes one after the other are w, or which are first spent at k
abbrev answers_after : Total → Option Solution → ℕ → Answer
answers_after t (some a) k = A.Done (t.cost + a.cost)
answers_after t none k = A.Spent (t.strips + k)

module _ (w : ℕ → Option Solution) where
  -- no strip's write costs 262,144 or more
  pub Bounded : (ℕ → ℕ) → ℕ → Type 0
  Bounded g n = (j : ℕ) → j < n → (a : Solution) → w (g j) ≡ some a → a.cost < closed

  total-answers : (n : ℕ) (g : ℕ → ℕ) (t : Total) → Room t n → Bounded g n → answer_for (total_from t (λ j. solution_outcome (w (g j))) n)
      ≡ answers_after t (all w (list_of n g)) (first-none w (list_of n g))
  unfolding total_from all first-none list_of joined solution_outcome Bounded
  total-answers zero g t r b =
      let e : t.cost % 2 ^ 32 ≡ t.cost = mod-eq_of_lt (omega (arith, r.cost-room)) in
      ap (λ (s : Bool). spent_or_done s (t.cost % 2 ^ 32) t.strips) r.unspent ∙ ap A.Done (e ∙ omega arith)
  total-answers (suc n) g t r b = go (w (g 0)) refl (all w (list_of n (λ i. g (suc i)))) (total-answers n (λ i. g (suc i)))
    where
      -- the outcome is added, since the total is not spent
      adds : (o : Std.Option ℕ) → added t o ≡ with_outcome t o
      adds o = ap (λ (s : Bool). unless_spent s t (with_outcome t o)) r.unspent

      go : (x : Option Solution) → w (g 0) ≡ x → (q : Option Solution)
          → ((u : Total) → Room u n → ((j : ℕ) → j < n → (a : Solution) → w (g (suc j)) ≡ some a → a.cost < closed)
          → answer_for (total_from u (λ j. solution_outcome (w (g (suc j)))) n) ≡ answers_after u q (first-none w (list_of n (λ i. g (suc i)))))
          → answer_for (total_from (added t (solution_outcome x)) (λ j. solution_outcome (w (g (suc j)))) n)
          ≡ answers_after t (joined x q) (elim x [ none ↦ 0 | some a ↦ suc (first-none w (list_of n (λ i. g (suc i)))) ])
      go none e q f =
          rw (adds None, total-spent (with_outcome t None) (λ j. solution_outcome (w (g (suc j)))) n refl) (ap A.Spent (omega arith))
      go (some a) e q f =
          let c : a.cost < closed = b 0 (omega arith) a e in
          let s : (t.cost + a.cost) % 2 ^ 64 ≡ t.cost + a.cost = mod-eq_of_lt (omega (arith, r.cost-room)) in
          let k : (t.strips + 1) % 2 ^ 32 ≡ t.strips + 1 = mod-eq_of_lt (omega (arith, r.strip-room)) in
          let u : Total = record { cost = t.cost + a.cost; strips = t.strips + 1; spent = false } in
          let v : added t (Some a.cost) ≡ u = adds (Some a.cost)
          ∙ ap₂ (λ (x y : ℕ). record { cost = x; strips = y; spent = false }) s k in
          let room : Room u n = record {
            unspent = refl;
            cost-room = omega (arith, r.cost-room);
            strip-room = omega (arith, r.strip-room);
          } in
          rw v (f u room (λ j h. b (suc j) (omega arith)) ∙ ends q)
        where
          ends : (q : Option Solution)
              → answers_after (record { cost = t.cost + a.cost; strips = t.strips + 1; spent = false }) q
              (first-none w (list_of n (λ i. g (suc i))))
              ≡ answers_after t (joined (some a) q) (suc (first-none w (list_of n (λ i. g (suc i)))))
          ends none = ap A.Spent (omega arith)
          ends (some d) = ap A.Done (omega arith)

-- THE PAGE: the total over its strips answers as its write does
pub page-answers : (J : Job) → J.strips ≤ 64 → ((k : ℕ) → k < J.strips → (a : Solution) → strip_write J k ≡ some a → a.cost < closed)
    → answer_for (total_from no_total (λ k. solution_outcome (strip_write J k)) J.strips) ≡ call_answer none (page_write J) (spent_strip J)
unfolding page_write spent_strip Bounded
page-answers J h b =
    total-answers (strip_write J) J.strips (λ k. k) no_total
    (record { unspent = refl; cost-room = omega arith; strip-room = omega arith }) b
    ∙ ends (all (strip_write J) (list_of J.strips (λ k. k)))
  where
    ends : (q : Option Solution) → answers_after no_total q (first-none (strip_write J) (list_of J.strips (λ k. k)))
        ≡ call_answer none q (first-none (strip_write J) (list_of J.strips (λ k. k)))
    ends none = ap A.Spent (omega arith)
    ends (some a) = ap A.Done (omega arith)

-- each of n strips below closed, all of them at most n times that
all-below : (w : ℕ → Option Solution) (n : ℕ) (g : ℕ → ℕ) → Bounded w g n → (a : Solution) → all w (list_of n g) ≡ some a
    → a.cost ≤ n * closed
unfolding all list_of joined Bounded
all-below w zero g b a e = let z : free ≡ a = cc in rw (← z) (omega arith)
all-below w (suc n) g b a e =
    go (w (g 0)) refl (all w (list_of n (λ i. g (suc i)))) (all-below w n (λ i. g (suc i)) (λ j l. b (suc j) (omega arith))) e
  where
    go : (x : Option Solution) → w (g 0) ≡ x → (q : Option Solution) → ((d : Solution) → q ≡ some d → d.cost ≤ n * closed)
        → joined x q ≡ some a → a.cost ≤ suc n * closed
    go none f q h e = let z : ◌≡◌ {A = ℕ} 0 1 = cc in absurd (omega arith)
    go (some c) f none h e = let z : ◌≡◌ {A = ℕ} 0 1 = cc in absurd (omega arith)
    go (some c) f (some d) h e =
        let z : c.cost + d.cost ≡ a.cost = cc in
        omega (arith, b 0 (omega arith) c f, h d refl)

-- A PAGE'S WRITE costs at most 64 times closed
pub page-below : (J : Job) → J.strips ≤ 64 → ((k : ℕ) → k < J.strips → (a : Solution) → strip_write J k ≡ some a → a.cost < closed)
    → answer_cost (job_answer none J) ≤ 64 * closed
unfolding job_answer page_write Bounded
page-below J h b = go (page_write J) refl
  where
    go : (w : Option Solution) → page_write J ≡ w → answer_cost (call_answer none w (spent_strip J)) ≤ 64 * closed
    go none e = omega arith
    go (some a) e = omega (arith, all-below (strip_write J) J.strips (λ k. k) b a e)
