-- THE PROMISE IS KEPT by the computed write, on every input.
--   promise-kept                    of any job that is in order where it has no ground
--   numbered-both                   the generators of both codes begin with 1
--   numbered-sound, numbered-suits  both codes go with one bit a cell, and with weights of three bytes
--   job-in-order, dear-by           a call without a ground is in order, and none of its steps is free
--   in-order-job                    it answers as its job does, and leaves that page
--   refused-call                    a call that is refused answers so, and changes nothing
--   wrote_by, wrote                 so the calls keep it, with any map and weights: wherever the raises start, and those of this release
--   page-length                     a write keeps the page's length
--   one-ground                      no ground and a ground exclude each other
--   could-done                      a call with no ground is done where some page could be
--   done-not-spent, spent-no-page   spent exactly when there is no page
--   spent-any-weights               and whether it is does not depend on the weights
use mathlib.Core.Path.{◌≡◌, refl, ◌∙◌, ap, subst}
use mathlib.Core.Bool.{Bool}
use mathlib.Core.List.{List}
use mathlib.Core.Option.{Option, none, some}
use Prim.Native.Nat.{ℕ}
use lib.ListN.{length}
use Rattle.cells.specs.Bytes.{Octets}
use Rattle.cells.specs.Climbs.{Weights}
use Rattle.cells.specs.Raising.{start_of, start_in, raised_to}
use Rattle.cells.proofs.Raising.{raised_to-length}
use Rattle.codes.specs.Generators.{Generators}
use Rattle.codes.specs.Layouts.{one_bit}
use Rattle.search.specs.Best.{Solution}
use Rattle.search.specs.Strip.{Dear, steps_of}
use Rattle.search.specs.Levels.{level_at}
use Rattle.search.specs.Layouts.{Sound}
use Rattle.search.proofs.OneBit.{Both, code-both}
use Rattle.search.proofs.Layouts.{one_bit-sound}
use Rattle.trellis.proofs.Ways.{Suits, suits}
use Rattle.demand.specs.Jobs.{Job, width, InOrder}
use Rattle.demand.specs.Demand.{Could}
use Rattle.demand.specs.Computed.{page_write, spent_strip}
use Rattle.demand.proofs.Jobs.{one_bit-whole}
use Rattle.demand.proofs.Demand.{cheapest, spent-at}
use Rattle.demand.proofs.Offers.{not_none}
use Rattle.demand.proofs.Weights.{could-any-weights, spent-any-strip, spent-once}
use Rattle.refusals.specs.Refusals.{weights_ground, list_ground, numbered}
use Rattle.page_promises.specs.Writes.{call_answer, call_page, one_bit_job, job_answer, job_page, marked_by, map_size, ground_with, job_with}
use Rattle.page_promises.specs.Writes.{answer_with, page_with}
use Rattle.page_promises.specs.Promise.{Promised, WroteWith, done, spent, refused}
use Rattle.refusals.specs.declared.Refusal.{Refusal}
use Rattle.page_answers.specs.declared.Answer.{Answer}
use Rattle.page_answers.specs.declared.Answer.TheVariants as A
use Rattle.refusals.proofs.Refusals.{numbered-code, weights-dear, no-grounds, same-weights, weighted-in-order}

-- ANY JOB that is in order where it has no ground
pub promise-kept : (start : ℕ → ℕ) (g : Option Refusal) (J : Job) → (g ≡ none → InOrder J)
    → Promised start g J (job_page g J start) (job_answer g J)
unfolding job_page job_answer
promise-kept start g J I = go g refl (page_write J) refl
  where
    go : (h : Option Refusal) → g ≡ h → (w : Option Solution) → page_write J ≡ w
        → Promised start g J (call_page h w (λ a. raised_to (start_in start (width J)) J.page (level_at a.levels)) J.page)
        (call_answer h w (spent_strip J))
    go (some r) e w f = refused e refl
    go none e (some a) f = done e (cheapest start J (I e) a f)
    go none e none f = spent e (spent-at J (I e) f) refl

-- the code of each number has two generators that begin with 1
pub numbered-both : (code : ℕ) → Both (numbered code)
numbered-both code = let c = numbered-code code in subst Both c.is (code-both c.code)

-- so it goes with one bit a cell
pub numbered-sound : (code : ℕ) → Sound one_bit (numbered code)
numbered-sound code = let b = numbered-both code in one_bit-sound (numbered code) b.g1-leads (ap length b.two)

-- and suits weights of three bytes
pub numbered-suits : (code : ℕ) (W : List ℕ) → Weights W → Suits (numbered code) W
numbered-suits code W K = let c = numbered-code code in subst (λ (G : Generators). Suits G W) c.is (suits c.code W K)

-- A CALL without a ground is in order
pub job-in-order : (map : Option (List ℕ)) (W : List ℕ) (code L S : ℕ) (before content : List ℕ) → Octets content
    → ground_with map W code L S before content ≡ none → InOrder (job_with map W code L S before content)
job-in-order map W code L S before content b e =
    let i = weighted-in-order none (map_size map) W code L S (length before) (length content) e in
    record { sound = numbered-sound code; whole = one_bit-whole L; page_is = i.page_is; data_is = i.data_is; octets = b }

-- and none of its steps is free
pub dear-by : (count map : Option ℕ) (W : List ℕ) (code L S page content : ℕ) → list_ground count map W code L S page content ≡ none
    → Dear (steps_of W)
dear-by count map W code L S page content e = record { dear = weights-dear W (no-grounds count map W code L S page content e).weights }

-- it answers as its job does, and leaves that page
pub in-order-job : (start : ℕ → ℕ) (map : Option (List ℕ)) (W : List ℕ) (code L S : ℕ) (before content : List ℕ) {G : Generators}
    {marks : ℕ → Bool} → ground_with map W code L S before content ≡ none → G ≡ numbered code → marks ≡ marked_by map
    → (job_answer none (one_bit_job marks G W L S before content) ≡ answer_with map W code L S before content)
    × (job_page none (one_bit_job marks G W L S before content) start ≡ page_with map W code L S before content start)
unfolding answer_with page_with
in-order-job start map W code L S before content e g m = (rw (e, g, m) refl, rw (e, g, m) refl)

-- a call that is refused answers so, and changes nothing
pub refused-call : (start : ℕ → ℕ) (map : Option (List ℕ)) (W : List ℕ) (code L S : ℕ) (before content : List ℕ) {r : Refusal}
    → ground_with map W code L S before content ≡ some r
    → (A.Refused r ≡ answer_with map W code L S before content) × (before ≡ page_with map W code L S before content start)
unfolding answer_with job_answer page_with job_page
refused-call start map W code L S before content e = (rw e, rw e)

-- so the computed answer and page keep the promise, with any map and weights, and wherever the raises start
pub wrote_by : (start : ℕ → ℕ) (map : Option (List ℕ)) (W : List ℕ) (code L S : ℕ) (before content : List ℕ) → Octets content
    → Promised start (ground_with map W code L S before content) (job_with map W code L S before content)
    (page_with map W code L S before content start) (answer_with map W code L S before content)
unfolding page_with answer_with
wrote_by start map W code L S before content b =
    promise-kept start (ground_with map W code L S before content) (job_with map W code L S before content)
    (job-in-order map W code L S before content b)

-- so do those of this release
pub wrote : (map : Option (List ℕ)) (W : List ℕ) (code L S : ℕ) (before content : List ℕ) → Octets content
    → WroteWith map W code L S before content (page_with map W code L S before content start_of) (answer_with map W code L S before content)
wrote = wrote_by start_of

-- A WRITE KEEPS THE PAGE'S LENGTH, whatever its answer and wherever the raises start
pub page-length : (start : ℕ → ℕ) (map : Option (List ℕ)) (W : List ℕ) (code L S : ℕ) (before content : List ℕ)
    → length (page_with map W code L S before content start) ≡ length before
unfolding page_with job_page
page-length start map W code L S before content =
    go (ground_with map W code L S before content) (page_write (job_with map W code L S before content))
  where
    go : (g : Option Refusal) (w : Option Solution)
        → length (call_page g w
        (λ a. raised_to (start_in start (width (job_with map W code L S before content))) before (level_at a.levels)) before)
        ≡ length before
    go (some r) w = refl
    go none none = refl
    go none (some a) = raised_to-length _ before (level_at a.levels)

-- no ground and a ground exclude each other
pub one-ground : {g : Option Refusal} {r : Refusal} → g ≡ none → g ≡ some r → ⊥
one-ground e f = not_none f e

-- 'A CALL WITH NONE OF THESE GROUNDS IS DONE': no ground from the input, and a page that could be, so that it is not spent
pub could-done : {start : ℕ → ℕ} {g : Option Refusal} {J : Job} {after : List ℕ} {r : Answer} → Promised start g J after r → g ≡ none
    → (other : List ℕ) → Could J other → (cost : ℕ) × (r ≡ A.Done cost)
could-done (done {cost = cost} e p) g other c = (cost, refl)
could-done (spent e p f) g other c = absurd (p.no_page other c)
could-done (refused e f) g other c = absurd (one-ground g e)

-- SPENT EXACTLY WHEN there is no such page: of a call in order, done and spent exclude each other and there is no third
pub done-not-spent : {start : ℕ → ℕ} {g : Option Refusal} {J : Job} {after : List ℕ} {r : Answer} → Promised start g J after r → g ≡ none
    → ((other : List ℕ) → Could J other → ⊥)
    → (k : ℕ) × (r ≡ A.Spent k)
done-not-spent (done e p) g n = absurd (n _ p.could)
done-not-spent (spent {k = k} e p f) g n = (k, refl)
done-not-spent (refused e f) g n = absurd (one-ground g e)

-- and where the answer is spent there is no such page
pub spent-no-page : {start : ℕ → ℕ} {g : Option Refusal} {J : Job} {after : List ℕ} {k : ℕ} → Promised start g J after (A.Spent k)
    → (other : List ℕ) → Could J other → ⊥
spent-no-page (spent e p f) = p.no_page

-- WHETHER A PAGE IS SPENT DOES NOT DEPEND ON THE WEIGHTS: spent with some weights, it is spent with any that are permitted, and with the
-- same strip. That the first are permitted need not be asked: they were not refused
pub spent-any-weights : (U W : List ℕ) → weights_ground W ≡ none → (map : Option (List ℕ)) (code L S : ℕ) (before content : List ℕ)
    → Octets content → (k : ℕ)
    → answer_with map U code L S before content ≡ A.Spent k → answer_with map W code L S before content ≡ A.Spent k
spent-any-weights U W w map code L S before content b k e =
    go (rw e at (wrote map U code L S before content b)) _ refl (wrote map W code L S before content b)
  where
    go : WroteWith map U code L S before content (page_with map U code L S before content start_of) (A.Spent k) → (r : Answer)
        → answer_with map W code L S before content ≡ r
        → WroteWith map W code L S before content (page_with map W code L S before content start_of) r
        → answer_with map W code L S before content ≡ A.Spent k
    go (spent f p h) r g (done i q) =
        absurd (p.no_page _ (could-any-weights W U (job_with map U code L S before content) q.could))
    go (spent f p h) r g (spent i q j) =
        g ∙ ap A.Spent (spent-once q (spent-any-strip U W (job_with map U code L S before content) p))
    go (spent f p h) r g (refused i j) =
        absurd (one-ground f (same-weights (map_size map) U W code L S (length before) (length content) w f ∙ i))
