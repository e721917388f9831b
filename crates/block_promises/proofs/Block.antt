-- WHAT A PUT PROMISES IS KEPT, on every input.
--   directory-plain, page-plain   the two writes of a put are plain writes
--   TwoWrites, two-writes         so a put is two plain writes, and no other two cost less
--   put-kept, put-wrote           the computed answer and block keep the promise; those of this release
--   put-spent                     spent exactly when no block could be for any page
--   put-done-get                  after an accepted put a get reads the data
--   put-rises                     a put keeps the block's length and lowers no cell, whatever its answer
--   erased-live                   an erased block has live page 0
--   put-largest                   it costs at most 1,835,456
--   in-order-put, refused-put a put without a ground answers by its choice; one that is refused changes nothing
--   put-call-kept   what answers so and leaves this block keeps promise and bound
use mathlib.Core.Path.{◌≡◌, refl, sym, ◌∙◌, ap}
use mathlib.Core.List.{List, [], ◌∷◌}
use mathlib.Core.Logic.{◌↔◌}
use mathlib.Core.Option.{Option, none, some}
use Prim.Native.Nat.{ℕ, ◌<◌, ◌≤◌, ◌+◌}
use native.Mathlib.Omega.{arith}
use lib.ListN.{length, get_or}
use Rattle.cells.specs.Places.{sum_of, list_of, from_bits}
use Rattle.cells.specs.Bytes.{Octets, bit_of, bytes_of}
use Rattle.cells.specs.Levels.{level}
use Rattle.cells.specs.Raising.{start_of}
use Rattle.cells.specs.Climbs.{house}
use Rattle.cells.proofs.Bytes.{one-octet}
use Rattle.codes.specs.Generators.{digit}
use Rattle.codes.specs.Layouts.{cell_count, stage_count}
use Rattle.codes.specs.Reading.{ago, sum_bit, code_bit, data_bit}
use Rattle.codes.proofs.Layouts.{one_bit-cells}
use Rattle.refusals.specs.Refusals.{numbered, directory_code, directory_bytes, directory_strips, directory_size, block_size}
use Rattle.refusals.specs.declared.Refusal.{Refusal}
use Rattle.refusals.proofs.Refusals.{live-permitted}
use Rattle.demand.specs.Reading.{strip_levels, read_by, read_page}
use Rattle.demand.specs.Demand.{Cheapest}
use Rattle.demand.specs.Offers.{Offer, LeastOf}
use Rattle.demand.proofs.Offers.{chosen, union-least, union-nothing}
use Rattle.page_answers.specs.Answers.{value_of}
use Rattle.page_answers.specs.declared.Answer.{Answer}
use Rattle.page_answers.specs.declared.Answer.TheVariants as A
use Rattle.page_promises.specs.Writes.{job_answer, job_page, answer_of, page_by}
use Rattle.page_promises.specs.Families.{job_offer}
use Rattle.page_promises.proofs.Promise.{in-order-job, one-ground}
use Rattle.page_promises.proofs.Bounds.{three-weights, write-most, house-most, house-largest}
use Rattle.page_promises.proofs.Families.{offer-cheapest, offered-done}
use Rattle.block_promises.specs.Block.{directory_of, page_in, block_cells, live_of, directory_job, page_job, put_offer, put_choice, put_block}
use Rattle.block_promises.specs.Block.{put_answer_by, chosen_block, ground_of_put, put_answer, block_by, block_after, CouldPut, block_cost}
use Rattle.block_promises.specs.Block.{PutCheapest, PutPromised, put-done, no_page, put_refused, WrotePut, largest_put_cost}
use Rattle.block_promises.specs.Block.{ground_of_get, live_page}
use Rattle.block_promises.proofs.Windows.{zero_bytes, window-zeros}
use Rattle.block_promises.proofs.Parts.{Fit, put-fits, directory-ground, page-ground, directory-in-order, page-in-order}
use Rattle.block_promises.proofs.Written.{offer-both, put-offered, directory-after, page-after, others-after, after-long}
use Rattle.block_promises.proofs.Written.{could-after, paid-after, lower-after}

-- the answer of the plain write of a number into the directory
abbrev pub directory_answer : (block : List ℕ) → ℕ → Answer
directory_answer block i = answer_of house directory_code directory_bytes directory_strips (directory_of block) (i ∷ [])

module _ (start : ℕ → ℕ) (code L S P : ℕ) (block content : List ℕ) (F : Fit code L S P block content) where
  -- THE TWO WRITES of a put are plain writes
  module _ (i : ℕ) (inside : i < P) where
    pub directory-plain : (job_answer none (directory_job block i) ≡ directory_answer block i)
        × (job_page none (directory_job block i) start
        ≡ page_by house directory_code directory_bytes directory_strips (directory_of block) (i ∷ []) start)
    directory-plain =
        in-order-job start none house directory_code directory_bytes directory_strips (directory_of block) (i ∷ [])
        (directory-ground code L S P block content F i inside) refl refl

    pub page-plain : (job_answer none (page_job code L S block content i) ≡ answer_of house code L S (page_in L S i block) content)
        × (job_page none (page_job code L S block content i) start ≡ page_by house code L S (page_in L S i block) content start)
    page-plain =
        in-order-job start none house code L S (page_in L S i block) content (page-ground code L S P block content F i inside) refl refl

  -- A PUT TO PAGE i IS TWO PLAIN WRITES, of the page and of its number into the directory, and no other two cost less
  pub record TwoWrites (i : ℕ) (after : List ℕ) (cost : ℕ) : Type 0 where
    pub inside : i < P
    pub of-directory : ℕ
    pub of-page : ℕ
    pub paid : of-directory + of-page ≡ cost
    pub directory-done : directory_answer block i ≡ A.Done of-directory
    pub page-done : answer_of house code L S (page_in L S i block) content ≡ A.Done of-page
    pub directory : directory_of after ≡ page_by house directory_code directory_bytes directory_strips (directory_of block) (i ∷ []) start
    pub page : page_in L S i after ≡ page_by house code L S (page_in L S i block) content start
    pub others : (j : ℕ) → (j ≡ i → ⊥) → page_in L S j after ≡ page_in L S j block
    pub long : length after ≡ length block
    pub ahead : (j a b : ℕ) → j < P → directory_answer block j ≡ A.Done a
        → answer_of house code L S (page_in L S j block) content ≡ A.Done b
        → (cost ≤ a + b) × (a + b ≡ cost → i ≤ j)

  -- the two offers of the page chosen
  module _ {o : Offer} (e : put_choice code L S P block content ≡ some o) where
    abbrev i : ℕ
    i = o.number

    u : LeastOf (λ j. 0) P (CouldPut code L S P block content) (λ j. block_cost code L S P block content) i o.cost
    unfolding put_choice
    u = union-least (λ j. 0) P _ _ (put_offer code L S P block content) (put-offered code L S P block content F) e

    h : i < P
    h = u.inside

    pub offers : (d : ℕ) × (q : ℕ) × (job_offer (directory_job block i) ≡ some d)
        × (job_offer (page_job code L S block content i) ≡ some q) × (d + q ≡ o.cost)
    unfolding put_choice
    offers = offer-both code L S P block content F i h (chosen (λ j. 0) (put_offer code L S P block content) P e).its_cost

    abbrev d : ℕ
    d = offers.0

    abbrev q : ℕ
    q = offers.1

    cd : Cheapest start (directory_job block i) (job_page none (directory_job block i) start) d
    cd = offer-cheapest start _ (directory-in-order code L S P block content F i h) offers.2

    cq : Cheapest start (page_job code L S block content i) (job_page none (page_job code L S block content i) start) q
    cq = offer-cheapest start _ (page-in-order code L S P block content F i h) offers.3

    -- as plain writes they have no ground
    x : (job_answer none (directory_job block i) ≡ directory_answer block i)
        × (job_page none (directory_job block i) start
        ≡ page_by house directory_code directory_bytes directory_strips (directory_of block) (i ∷ []) start)
    x = directory-plain i h

    y : (job_answer none (page_job code L S block content i) ≡ answer_of house code L S (page_in L S i block) content)
        × (job_page none (page_job code L S block content i) start ≡ page_by house code L S (page_in L S i block) content start)
    y = page-plain i h

    pub two-writes : TwoWrites i (put_block code L S P block content i start) o.cost
    unfolding put_choice put_offer
    two-writes = record {
      inside = h;
      of-directory = d;
      of-page = q;
      paid = offers.4;
      directory-done = sym x.0 ∙ offered-done _ offers.2;
      page-done = sym y.0 ∙ offered-done _ offers.3;
      directory = directory-after code L S P block content F i h start d q cd cq ∙ x.1;
      page = page-after code L S P block content F i h start d q cd cq ∙ y.1;
      others = others-after code L S P block content F i h start d q cd cq;
      long = after-long code L S P block content F i h start d q cd cq;
      ahead = λ j a b l f g.
          let w = chosen (λ j. 0) (put_offer code L S P block content) P e in
          let z : put_offer code L S P block content j ≡ some (a + b) =
          rw ((directory-plain j l).0 ∙ f, (page-plain j l).0 ∙ g) refl in
          (w.least j (a + b) l z, λ s. (w.ahead j l (z ∙ ap some s)).lower refl);
    }

    -- THE CHOICE is what the promise says
    put-cheapest : PutCheapest code L S P block content start i (put_block code L S P block content i start) o.cost
    unfolding cell_count stage_count
    put-cheapest = record {
      inside = h;
      could = could-after code L S P block content F i h start d q cd cq;
      raised-directory = rw (directory-after code L S P block content F i h start d q cd cq) cd.raised;
      raised-page = rw (page-after code L S P block content F i h start d q cd cq) cq.raised;
      others_keep = λ j l n. others-after code L S P block content F i h start d q cd cq j n;
      paid = paid-after code L S P block content F i h start d q cd cq ∙ offers.4;
      least = u.least;
      lowest = λ j l other x s. (u.ahead j l other x s).lower refl;
      among_equals = λ other x s. lower-after code L S P block content F i h start d q cd cq other x (s ∙ sym offers.4);
    }

    -- IT COSTS AT MOST 1,835,008 and the directory's 448
    chosen-largest : o.cost ≤ largest_put_cost
    chosen-largest =
        let w = two-writes in
        let m = write-most none house (three-weights 16 20 28 (omega arith) (omega arith) (omega arith)) directory_code directory_bytes
        directory_strips (directory_of block) (i ∷ []) (one-octet i (omega (arith, h, F.fits.few))) 28 house-most w.of-directory
        w.directory-done in
        let n = house-largest none code L S (page_in L S i block) content F.octets {r = A.Done w.of-page} (sym w.page-done) in
        omega (arith, rw (one_bit-cells directory_bytes) at m, n, w.paid)

  -- where nothing is chosen, no block could be
  put-nothing : put_choice code L S P block content ≡ none
      → (j : ℕ) → j < P → (other : List ℕ) → CouldPut code L S P block content j other → ⊥
  unfolding put_choice
  put-nothing e =
      (union-nothing (λ j. 0) P _ (λ j. block_cost code L S P block content) (put_offer code L S P block content)
      (put-offered code L S P block content F) e).nothing

module _ (start : ℕ → ℕ) (code L S P : ℕ) (block content : List ℕ) (b : Octets content) where
  -- THE PROMISE IS KEPT by the computed answer and block, on every input
  pub put-kept : PutPromised code L S P block content start (ground_of_put code L S P block content)
      (block_by code L S P block content start) (put_answer code L S P block content)
  unfolding block_by put_answer
  put-kept = go (ground_of_put code L S P block content) refl (put_choice code L S P block content) refl
    where
      go : (g : Option Refusal) → ground_of_put code L S P block content ≡ g → (o : Option Offer) → put_choice code L S P block content ≡ o
          → PutPromised code L S P block content start (ground_of_put code L S P block content)
          (chosen_block code L S P block content g o start) (put_answer_by code L S P block content g o)
      go (some r) f o e = put_refused f refl
      go none f none e = no_page f (put-nothing start code L S P block content (put-fits code L S P block content b f) e) refl
      go none f (some o) e = put-done f o.number (put-cheapest start code L S P block content (put-fits code L S P block content b f) e)

  -- SPENT EXACTLY WHEN no block could be for any page; the strip reported is 0
  pub put-spent : ground_of_put code L S P block content ≡ none
      → (put_answer code L S P block content ≡ A.Spent 0)
      ↔ ((j : ℕ) → j < P → (other : List ℕ) → CouldPut code L S P block content j other → ⊥)
  put-spent g = (λ e. only (rw e at put-kept), λ n. then n (put_answer code L S P block content) refl put-kept)
    where
      only : PutPromised code L S P block content start (ground_of_put code L S P block content) (block_by code L S P block content start)
          (A.Spent 0)
          → (j : ℕ) → j < P → (other : List ℕ) → CouldPut code L S P block content j other → ⊥
      only (no_page f n k) = n

      then : ((j : ℕ) → j < P → (other : List ℕ) → CouldPut code L S P block content j other → ⊥) → (r : Answer)
          → put_answer code L S P block content ≡ r
          → PutPromised code L S P block content start (ground_of_put code L S P block content) (block_by code L S P block content start) r
          → put_answer code L S P block content ≡ A.Spent 0
      then n r e (put-done f i p) = absurd (n i p.inside _ p.could)
      then n r e (no_page f m k) = e
      then n r e (put_refused f k) = absurd (one-ground g f)

  -- A PUT KEEPS THE BLOCK'S LENGTH and lowers no cell, whatever its answer
  pub put-rises : (length (block_by code L S P block content start) ≡ length block)
      × ((c : ℕ) → c < block_cells L S P → level block c ≤ level (block_by code L S P block content start) c)
  put-rises = go put-kept
    where
      go : {r : Answer} {after : List ℕ} → PutPromised code L S P block content start (ground_of_put code L S P block content) after r
          → (length after ≡ length block) × ((c : ℕ) → c < block_cells L S P → level block c ≤ level after c)
      go (put-done f i p) = (p.could.size, p.could.no_lower)
      go (no_page f n k) = (ap length k, λ c h. rw k (omega arith))
      go (put_refused f k) = (ap length k, λ c h. rw k (omega arith))

  -- AFTER AN ACCEPTED PUT A GET READS THE DATA: it has no ground, with a buffer of the same length
  pub put-done-get : (cost : ℕ) → put_answer code L S P block content ≡ A.Done cost
      → (ground_of_get code L S P (block_by code L S P block content start) (length content) ≡ none)
      × (live_page code L S (block_by code L S P block content start) ≡ content)
  unfolding live_of
  put-done-get cost e = go (rw e at put-kept)
    where
      go : {after : List ℕ} → PutPromised code L S P block content start (ground_of_put code L S P block content) after (A.Done cost)
          → (ground_of_get code L S P after (length content) ≡ none) × (live_page code L S after ≡ content)
      go (put-done f i p) =
          let l = ap (λ (x : List ℕ). get_or x 0 0) p.could.names in
          rw (l, p.could.size, f, live-permitted P i p.inside) (refl, p.could.reads)

-- 'an erased block has live page 0'
pub erased-live : (L S P : ℕ) → live_of (zero_bytes (block_size L S P)) ≡ 0
unfolding live_of read_page read_by bytes_of list_of from_bits data_bit sum_bit code_bit ago digit sum_of strip_levels level bit_of numbered cell_count
    stage_count
erased-live L S P =
    ap (λ (x : List ℕ). get_or (read_page (numbered directory_code) directory_bytes directory_strips x) 0 0)
    (window-zeros 0 directory_size (block_size L S P) (omega arith))

-- those of this release keep it too
pub put-wrote : (code L S P : ℕ) (block content : List ℕ) → Octets content
    → WrotePut code L S P block content (block_after code L S P block content) (put_answer code L S P block content)
put-wrote = put-kept start_of

-- IT COSTS AT MOST 1,835,456
pub put-largest : (code L S P : ℕ) (block content : List ℕ) → Octets content → {r : Answer} → r ≡ put_answer code L S P block content
    → value_of r ≤ largest_put_cost
unfolding put_answer
put-largest code L S P block content b e =
    rw e (go (ground_of_put code L S P block content) refl (put_choice code L S P block content) refl)
  where
    go : (g : Option Refusal) → ground_of_put code L S P block content ≡ g → (o : Option Offer) → put_choice code L S P block content ≡ o
        → value_of (put_answer_by code L S P block content g o) ≤ largest_put_cost
    go (some r) f o e = omega arith
    go none f none e = omega arith
    go none f (some o) e = chosen-largest start_of code L S P block content (put-fits code L S P block content b f) e

-- A PUT without a ground answers by its choice, and leaves that block
pub in-order-put : (start : ℕ → ℕ) (code L S P : ℕ) (block content : List ℕ) → ground_of_put code L S P block content ≡ none
    → (put_answer_by code L S P block content none (put_choice code L S P block content) ≡ put_answer code L S P block content)
    × (chosen_block code L S P block content none (put_choice code L S P block content) start ≡ block_by code L S P block content start)
unfolding put_answer block_by
in-order-put start code L S P block content g = (rw g, rw g)

-- one that is refused answers so, and changes nothing
pub refused-put : (start : ℕ → ℕ) (code L S P : ℕ) (block content : List ℕ) {r : Refusal} → ground_of_put code L S P block content ≡ some r
    → (A.Refused r ≡ put_answer code L S P block content) × (block ≡ block_by code L S P block content start)
unfolding put_answer block_by
refused-put start code L S P block content g = (rw g, rw g)

-- A PUT that answers so and leaves this block keeps its promise and the bound
pub put-call-kept : (code L S P : ℕ) (block content : List ℕ) → Octets content → {after : List ℕ} {r : Answer}
    → r ≡ put_answer code L S P block content → after ≡ block_after code L S P block content
    → WrotePut code L S P block content after r × (value_of r ≤ largest_put_cost)
put-call-kept code L S P block content b e p =
    (rw (p, e) (put-wrote code L S P block content b), put-largest code L S P block content b e)
