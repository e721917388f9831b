-- THE LAW OF A FAMILY OF JOBS, each in order.
--   offered-done       an answer that offers a cost is done with it
--   job-offered        what a job offers is the least cost of all that could be for it
--   offer-cheapest     and its page is the cheapest
--   family-cheapest    the choice is the cheapest over everything that could be for any of them
--   family-nothing     where nothing is chosen, nothing could be for any
--   family-spent       nothing could be for any exactly when all are spent
use mathlib.Core.Path.{◌≡◌, refl, ap, subst}
use mathlib.Core.List.{List}
use mathlib.Core.Logic.{◌↔◌}
use mathlib.Core.Option.{none, some, some-injective}
use Prim.Native.Nat.{ℕ, ◌<◌}
use Rattle.demand.specs.Jobs.{Job, InOrder}
use Rattle.demand.specs.Demand.{Could, job_cost, Cheapest}
use Rattle.demand.specs.Offers.{Offer, choose, Offered, NoneFor}
use Rattle.demand.proofs.Offers.{not_none, chosen, union-least, union-nothing, union-spent}
use Rattle.page_answers.specs.Answers.{offered}
use Rattle.page_answers.specs.declared.Answer.{Answer}
use Rattle.page_answers.specs.declared.Answer.TheVariants as A
use Rattle.page_promises.specs.Writes.{job_page}
use Rattle.page_promises.specs.Promise.{Promised, done, spent, refused}
use Rattle.page_promises.specs.Families.{job_offer, CheapestOf}
use Rattle.page_promises.proofs.Promise.{promise-kept, one-ground}

-- an answer that offers a cost is done with it
pub offered-done : (r : Answer) {c : ℕ} → offered r ≡ some c → r ≡ A.Done c
offered-done (A.Done d) e = ap A.Done (some-injective _ _ e)
offered-done (A.Spent k) e = absurd (not_none e refl)
offered-done (A.Refused r) e = absurd (not_none e refl)

module _ {start : ℕ → ℕ} {J : Job} {after : List ℕ} where
  -- an answer that offers something is that of the cheapest page
  done-cheapest : {r : Answer} {c : ℕ} → Promised start none J after r → offered r ≡ some c → Cheapest start J after c
  done-cheapest (done g p) e = subst (λ d. Cheapest start J after d) (some-injective _ _ e) p
  done-cheapest (spent g p f) e = absurd (not_none e refl)
  done-cheapest (refused g f) e = absurd (not_none e refl)

  -- and where one offers nothing, no page could be
  spent-nothing : {r : Answer} → Promised start none J after r → offered r ≡ none → (other : List ℕ) → Could J other → ⊥
  spent-nothing (done g p) e = absurd (not_none refl e)
  spent-nothing (spent g p f) e = p.no_page
  spent-nothing (refused g f) e = absurd (one-ground refl g)

-- a job's offer is of its cheapest page
pub offer-cheapest : (start : ℕ → ℕ) (J : Job) → InOrder J → {c : ℕ} → job_offer J ≡ some c → Cheapest start J (job_page none J start) c
offer-cheapest start J I e = done-cheapest (promise-kept start none J (λ g. I)) e

-- so it is the least cost of all that could be for it
pub job-offered : (J : Job) → InOrder J → Offered (Could J) (job_cost J) (job_offer J)
job-offered J I = record {
  least = λ c e other x. (offer-cheapest (λ n. 0) J I e).least other x;
  nothing = λ e. spent-nothing (promise-kept (λ n. 0) none J (λ g. I)) e;
}

module _ (rank : ℕ → ℕ) (n : ℕ) (J : ℕ → Job) (I : (j : ℕ) → j < n → InOrder (J j)) where
  -- THE CHOICE IS THE CHEAPEST over everything that could be for any of the jobs
  pub family-cheapest : (start : ℕ → ℕ) {o : Offer} → choose rank (λ j. job_offer (J j)) n ≡ some o
      → CheapestOf start rank n J o.number (job_page none (J o.number) start) o.cost
  family-cheapest start {o} e =
      let b = chosen rank (λ j. job_offer (J j)) n e in
      record {
        own = offer-cheapest start (J o.number) (I o.number b.inside) b.its_cost;
        union = union-least rank n _ _ (λ j. job_offer (J j)) (λ j h. job-offered (J j) (I j h)) e;
      }

  -- where nothing is chosen, nothing could be for any
  pub family-nothing : choose rank (λ j. job_offer (J j)) n ≡ none → NoneFor n (λ j. Could (J j))
  family-nothing e = union-nothing rank n _ (λ j. job_cost (J j)) (λ j. job_offer (J j)) (λ j h. job-offered (J j) (I j h)) e

  -- NOTHING COULD BE FOR ANY EXACTLY WHEN all are spent
  pub family-spent : NoneFor n (λ j. Could (J j)) ↔ ((j : ℕ) → j < n → job_offer (J j) ≡ none)
  family-spent =
      union-spent rank n _ (λ j. job_cost (J j)) (λ j. job_offer (J j)) (λ j h. job-offered (J j) (I j h))
      (λ j c h e. (_, (offer-cheapest (λ m. 0) (J j) (I j h) e).could))
