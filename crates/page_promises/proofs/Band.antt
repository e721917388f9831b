-- THE LAWS OF A WRITE IN A BAND.
--   value-octets, value-plain   the data of a value is bytes; without a ground its plain write has none
--   tried-fits, chosen-fits     the values tried, and the one chosen, have 16 bits
--   band-kept, band-wrote       the computed answer and page keep the promise, on every input; those of this release
--   band-spent                  spent exactly when no page could be for any value of the band
--   band-read                   the value read back is the one stored, and within M of the one given
--   band-as-write, band-keeps   what is stored is stored as by its plain write, answer and page; so what these keep it keeps
--   band-zero                   with M = 0 it is the plain write of the value given
--   wider                       a wider band never costs more, and is never spent where a narrower one is not
--   band-largest                it costs at most 896
--   in-order-band, refused-band a call without a ground answers by its choice; one that is refused changes nothing
--   write-band-kept             what answers so and leaves this page keeps promise and bound
use mathlib.Core.Path.{◌≡◌, refl, sym, ◌∙◌, ap, subst}
use mathlib.Core.List.{List}
use mathlib.Core.Logic.{⊎_elim, ◌↔◌}
use mathlib.Core.Option.{Option, none, some}
use Prim.Native.Nat.{ℕ, zero, suc, ◌<◌, ◌≤◌, ◌-◌}
use native.Mathlib.Omega.{arith}
use lib.ListN.{length, get_or}
use Rattle.cells.specs.Bytes.{Octets}
use Rattle.cells.specs.Raising.{start_of}
use Rattle.cells.specs.Climbs.{house}
use Rattle.cells.proofs.Places.{same?}
use Rattle.codes.specs.Layouts.{one_bit}
use Rattle.codes.proofs.Layouts.{one_bit-cells}
use Rattle.demand.specs.Jobs.{InOrder}
use Rattle.demand.specs.Demand.{Could, job_cost, Cheapest}
use Rattle.demand.specs.Reading.{read_by, read_page}
use Rattle.demand.specs.Offers.{Offer}
use Rattle.demand.proofs.Offers.{chosen}
use Rattle.refusals.specs.Refusals.{band_bytes, band_strips, value_ground, write_ground, numbered}
use Rattle.refusals.specs.declared.Refusal.{Refusal}
use Rattle.refusals.proofs.Refusals.{band-permitted, value-band, value-ground}
use Rattle.page_answers.specs.Answers.{plain_answer, value_of}
use Rattle.page_answers.specs.declared.Answer.{Answer}
use Rattle.page_answers.specs.declared.Answer.TheVariants as A
use Rattle.page_answers.specs.declared.BandAnswer.{BandAnswer}
use Rattle.page_answers.specs.declared.BandAnswer.TheVariants as B
use Rattle.page_promises.specs.Writes.{job_page, answer_of, page_by}
use Rattle.page_promises.specs.Promise.{Promised, done, spent, refused}
use Rattle.page_promises.specs.Families.{job_offer, CheapestOf}
use Rattle.page_promises.specs.Band.{value_bytes, value_job, InBand, away, value_at, value_count, band_choice, band_answer_by, chosen_page}
use Rattle.page_promises.specs.Band.{band_answer, band_page_by, band_page, Behind, farther, higher, same_value, BandCheapest}
use Rattle.page_promises.specs.Band.{BandPromised, stored, all-spent, not_begun, WroteBand, largest_band_cost}
use Rattle.page_promises.proofs.Promise.{job-in-order, in-order-job, refused-call, wrote_by, one-ground}
use Rattle.page_promises.proofs.Bounds.{three-weights, write-most, house-most}
use Rattle.page_promises.proofs.Families.{offered-done, family-cheapest, family-nothing}

-- A VALUE. Its data is bytes
pub value-octets : (w : ℕ) → w ≤ 65535 → Octets (value_bytes w)
value-octets w h = record { below = go }
  where
    go : (q : ℕ) → q < 2 → get_or (value_bytes w) q 0 < 256
    go zero l = omega arith
    go (suc zero) l = omega arith
    go (suc (suc q)) l = absurd (let z : ⊥ = omega arith in z)

-- a write in a band without a ground has none as the plain write of a value, whichever it is
pub value-plain : (code M : ℕ) (before : List ℕ) → value_ground code M (length before) ≡ none
    → write_ground house code band_bytes band_strips (length before) 2 ≡ none
value-plain code M before g = sym (value-ground code M (length before) (value-band code M (length before) g)) ∙ g

-- THE VALUES TRIED are at most 65,535
pub tried-fits : (v M : ℕ) → v ≤ 65535 → (i : ℕ) → i < value_count v M → value_at v M i ≤ 65535
tried-fits v M f i h = omega arith

-- and so is the one chosen
pub chosen-fits : (code : ℕ) (before : List ℕ) (v M : ℕ) → v ≤ 65535 → {o : Offer} → band_choice code before v M ≡ some o
    → value_at v M o.number ≤ 65535
unfolding band_choice
chosen-fits code before v M f e =
    tried-fits v M f _
    (chosen (λ i. away v (value_at v M i)) (λ i. job_offer (value_job code before (value_at v M i))) (value_count v M) e).inside

-- so that write is in order
value-in-order : (code M : ℕ) (before : List ℕ) → value_ground code M (length before) ≡ none → (w : ℕ) → w ≤ 65535
    → InOrder (value_job code before w)
value-in-order code M before g w h =
    job-in-order none house code band_bytes band_strips before (value_bytes w) (value-octets w h) (value-plain code M before g)

module _ (start : ℕ → ℕ) (code : ℕ) (before : List ℕ) (v M : ℕ) (fits : v ≤ 65535) where
  -- they are those of the band
  tried-in : (i : ℕ) → i < value_count v M → InBand v M (value_at v M i)
  tried-in i h = record { low = omega arith; high = omega arith; fits = tried-fits v M fits i h }

  in-tried : (w : ℕ) → InBand v M w → (w - (v - M) < value_count v M) × (value_at v M (w - (v - M)) ≡ w)
  in-tried w b = (omega (arith, b.low, b.high, b.fits), omega (arith, b.low, b.high, b.fits))

  -- a page that could be for a value could be for the value tried at its place
  at_place : (u : ℕ) → InBand v M u → (other : List ℕ) → Could (value_job code before u) other
      → Could (value_job code before (value_at v M (u - (v - M)))) other
  at_place u b other x = subst (λ z. Could (value_job code before z) other) (sym (in-tried u b).1) x

  -- a value that costs the same comes behind
  behind : (w u : ℕ) (after other : List ℕ) {cost : ℕ} → Cheapest start (value_job code before w) after cost
      → Could (value_job code before u) other → job_cost (value_job code before u) other ≡ cost
      → away v w ≤ away v u → (away v w ≡ away v u → w ≤ u)
      → Behind v w after u other
  unfolding job_cost
  behind w u after other p x e near low =
      ⊎_elim
      (λ q. ⊎_elim
      (λ s. same_value s (p.among_equals other (subst (λ z. Could (value_job code before z) other) (sym s) x) e))
      (λ d. higher q (let l = low q in omega arith)) (same? w u))
      (λ d. farther (omega arith))
      (same? (away v w) (away v u))

  -- without a ground
  module _ (g : value_ground code M (length before) ≡ none) where
    -- every value tried has a plain write in order
    tried-in-order : (i : ℕ) → i < value_count v M → InOrder (value_job code before (value_at v M i))
    tried-in-order i h = value-in-order code M before g _ (tried-in i h).fits

    -- what is chosen is what the promise says
    band-cheapest : {o : Offer} → band_choice code before v M ≡ some o
        → BandCheapest start code before v M (job_page none (value_job code before (value_at v M o.number)) start)
        o.cost (value_at v M o.number)
    unfolding band_choice job_cost
    band-cheapest {o} e = record {
      near = tried-in o.number f.union.inside;
      picked = f.own;
      least = λ u b other x. f.union.least (u - (v - M)) (in-tried u b).0 other (at_place u b other x);
      among_equals = λ u b other x q.
          let a = f.union.ahead (u - (v - M)) (in-tried u b).0 other (at_place u b other x) q in
          let t = (in-tried u b).1 in
          behind (value_at v M o.number) u _ other f.own x q (omega (arith, a.ranked, ap (away v) t))
          (λ d. omega (arith, a.lower (d ∙ ap (away v) (sym t)), t));
    }
      where
        f : CheapestOf start (λ i. away v (value_at v M i)) (value_count v M)
            (λ i. value_job code before (value_at v M i)) o.number
            (job_page none (value_job code before (value_at v M o.number)) start) o.cost
        f = family-cheapest _ (value_count v M) _ tried-in-order start e

    -- where nothing is chosen, no page could be
    nothing-tried : band_choice code before v M ≡ none
        → (u : ℕ) → InBand v M u → (other : List ℕ) → Could (value_job code before u) other → ⊥
    unfolding band_choice
    nothing-tried e u b other x =
        (family-nothing _ (value_count v M) _ tried-in-order e).nothing (u - (v - M)) (in-tried u b).0 other (at_place u b other x)

  -- THE PROMISE IS KEPT by the computed answer and page, on every input
  pub band-kept : BandPromised start (value_ground code M (length before)) code before v M (band_page_by code before v M start)
      (band_answer code before v M)
  unfolding band_page_by band_answer
  band-kept = go (value_ground code M (length before)) refl (band_choice code before v M) refl
    where
      go : (g : Option Refusal) → value_ground code M (length before) ≡ g → (o : Option Offer) → band_choice code before v M ≡ o
          → BandPromised start (value_ground code M (length before)) code before v M (chosen_page code before v M g o start)
          (band_answer_by code before v M g o)
      go (some r) q o e = not_begun q refl
      go none q (some o) e = stored q (band-cheapest q e)
      go none q none e = all-spent q (λ u b other x. nothing-tried q e u b other x) refl

  -- SPENT EXACTLY WHEN no page could be for any value of the band
  pub band-spent : value_ground code M (length before) ≡ none
      → (band_answer code before v M ≡ B.Spent) ↔ ((u : ℕ) → InBand v M u → (other : List ℕ) → Could (value_job code before u) other → ⊥)
  band-spent g = (λ e. only (rw e at band-kept), λ n. then n (band_answer code before v M) refl band-kept)
    where
      only : BandPromised start (value_ground code M (length before)) code before v M (band_page_by code before v M start) B.Spent
          → (u : ℕ) → InBand v M u → (other : List ℕ) → Could (value_job code before u) other → ⊥
      only (all-spent f n k) = n

      then : ((u : ℕ) → InBand v M u → (other : List ℕ) → Could (value_job code before u) other → ⊥) → (r : BandAnswer)
          → band_answer code before v M ≡ r
          → BandPromised start (value_ground code M (length before)) code before v M (band_page_by code before v M start) r
          → band_answer code before v M ≡ B.Spent
      then n r e (stored f p) = absurd (n _ p.near _ p.picked.could)
      then n r e (all-spent f m k) = e
      then n r e (not_begun f k) = absurd (one-ground g f)

  -- THE VALUE READ BACK is the one stored, and within M of the one given
  pub band-read : (cost w : ℕ) → band_answer code before v M ≡ B.Done cost w
      → InBand v M w × (read_page (numbered code) band_bytes band_strips (band_page_by code before v M start) ≡ value_bytes w)
  unfolding read_page
  band-read cost w e = go (rw e at band-kept)
    where
      go : BandPromised start (value_ground code M (length before)) code before v M (band_page_by code before v M start) (B.Done cost w)
          → InBand v M w × (read_by one_bit (numbered code) band_bytes band_strips (band_page_by code before v M start) ≡ value_bytes w)
      go (stored f p) = (p.near, p.picked.could.reads)

-- so do those of this release
pub band-wrote : (code : ℕ) (before : List ℕ) (v M : ℕ) → v ≤ 65535
    → WroteBand code before v M (band_page code before v M) (band_answer code before v M)
band-wrote = band-kept start_of

-- A WIDER BAND. Values of a narrower band are in a wider one
in-wider : {v M N w : ℕ} → M ≤ N → InBand v M w → InBand v N w
in-wider h b = record { low = omega (arith, b.low); high = omega (arith, b.high); fits = b.fits }

-- and a permitted one has no ground where the narrower has none
ground-wider : (code M N page : ℕ) → N ≤ 8 → value_ground code M page ≡ none → value_ground code N page ≡ none
ground-wider code M N page h g =
    value-ground code N page (band-permitted N h) ∙ sym (value-ground code M page (value-band code M page g)) ∙ g

-- what a narrower band stores for some cost, a wider one stores for no more; so it is not spent
pub wider : (code : ℕ) (before : List ℕ) (v M N : ℕ) → v ≤ 65535 → M ≤ N → N ≤ 8 → (cost w : ℕ)
    → band_answer code before v M ≡ B.Done cost w
    → (d : ℕ) × (u : ℕ) × (band_answer code before v N ≡ B.Done d u) × (d ≤ cost)
wider code before v M N fits h m cost w e = go (rw e at (band-wrote code before v M fits)) _ refl (band-wrote code before v N fits)
  where
    go : WroteBand code before v M (band_page code before v M) (B.Done cost w) → (r : BandAnswer) → band_answer code before v N ≡ r
        → WroteBand code before v N (band_page code before v N) r
        → (d : ℕ) × (u : ℕ) × (band_answer code before v N ≡ B.Done d u) × (d ≤ cost)
    go (stored g p) r q (stored {cost = d} {w = u} f b) =
        (d, u, q, omega (arith, b.least w (in-wider h p.near) _ p.picked.could, p.picked.paid))
    go (stored g p) r q (all-spent f b z) = absurd (b w (in-wider h p.near) _ p.picked.could)
    go (stored g p) r q (not_begun f z) = absurd (one-ground (ground-wider code M N _ m g) f)

-- A CALL without a ground answers by its choice, and leaves that page
pub in-order-band : (start : ℕ → ℕ) (code : ℕ) (before : List ℕ) (v M : ℕ) → value_ground code M (length before) ≡ none
    → (band_answer_by code before v M none (band_choice code before v M) ≡ band_answer code before v M)
    × (chosen_page code before v M none (band_choice code before v M) start ≡ band_page_by code before v M start)
unfolding band_answer band_page_by
in-order-band start code before v M g = (rw g, rw g)

-- one that is refused answers so, and changes nothing
pub refused-band : (start : ℕ → ℕ) (code : ℕ) (before : List ℕ) (v M : ℕ) {r : Refusal} → value_ground code M (length before) ≡ some r
    → (B.Refused r ≡ band_answer code before v M) × (before ≡ band_page_by code before v M start)
unfolding band_answer band_page_by
refused-band start code before v M g = (rw g, rw g)

-- WHAT IS STORED IS STORED AS BY ITS PLAIN WRITE: the same cost, and the same page
module _ (start : ℕ → ℕ) (code : ℕ) (before : List ℕ) (v M : ℕ) where
  -- one that is done
  abbrev AsWrite : BandAnswer → List ℕ → Type 0
  AsWrite (B.Done cost w) page =
      (answer_of house code band_bytes band_strips before (value_bytes w) ≡ A.Done cost)
      × (page ≡ page_by house code band_bytes band_strips before (value_bytes w) start)
  AsWrite B.Spent page = page ≡ before
  AsWrite (B.Refused r) page = page ≡ before

  pub band-as-write : AsWrite (band_answer code before v M) (band_page_by code before v M start)
  unfolding band_answer band_page_by band_choice
  band-as-write = go (value_ground code M (length before)) refl (band_choice code before v M) refl
    where
      go : (g : Option Refusal) → value_ground code M (length before) ≡ g → (o : Option Offer) → band_choice code before v M ≡ o
          → AsWrite (band_answer_by code before v M g o) (chosen_page code before v M g o start)
      go (some r) q o e = refl
      go none q none e = refl
      go none q (some o) e =
          let w = value_at v M o.number in
          let z = in-order-job start none house code band_bytes band_strips before (value_bytes w) (value-plain code M before q) refl refl in
          let c = chosen (λ i. away v (value_at v M i)) (λ i. job_offer (value_job code before (value_at v M i))) (value_count v M) e in
          (sym z.0 ∙ offered-done _ c.its_cost, z.1)

-- so what every plain write of a value keeps it keeps, whatever its answer
pub band-keeps : (start : ℕ → ℕ) (code : ℕ) (before : List ℕ) (v M : ℕ) → v ≤ 65535 → (P : List ℕ → Type 0)
    → ((w : ℕ) → w ≤ 65535 → P (page_by house code band_bytes band_strips before (value_bytes w) start)) → P before
    → P (band_page_by code before v M start)
band-keeps start code before v M fits P each stays =
    go (band_answer code before v M) (band-kept start code before v M fits) (band-as-write start code before v M)
  where
    go : (r : BandAnswer)
        → BandPromised start (value_ground code M (length before)) code before v M (band_page_by code before v M start) r
        → AsWrite start code before v M r (band_page_by code before v M start) → P (band_page_by code before v M start)
    go r (stored {w = w} g p) a = subst P (sym a.1) (each w p.near.fits)
    go r (all-spent g n k) a = subst P (sym k) stays
    go r (not_begun g k) a = subst P (sym k) stays

-- WITH M = 0 IT IS THE PLAIN WRITE of the value given: answer and page. The one value of the band is the one given
only-value : {v w : ℕ} → InBand v 0 w → w ≡ v
only-value b = omega (arith, b.low, b.high)

module _ (start : ℕ → ℕ) (code : ℕ) (before : List ℕ) (v : ℕ) (fits : v ≤ 65535) where
  -- the plain write of a value that no page could be for is spent, with strip 0, and changes nothing
  plain-spent : {g : Option Refusal} {after : List ℕ} {r : Answer} → Promised start g (value_job code before v) after r → g ≡ none
      → ((other : List ℕ) → Could (value_job code before v) other → ⊥) → (A.Spent 0 ≡ r) × (before ≡ after)
  plain-spent (done e p) g n = absurd (n _ p.could)
  plain-spent (spent {k = k} e p f) g n = (ap A.Spent (let z : 0 ≡ k = omega (arith, p.inside) in z), sym f)
  plain-spent (refused e f) g n = absurd (one-ground g e)

  pub band-zero : (plain_answer (band_answer code before v 0) ≡ answer_of house code band_bytes band_strips before (value_bytes v))
      × (band_page_by code before v 0 start ≡ page_by house code band_bytes band_strips before (value_bytes v) start)
  band-zero = go (band_answer code before v 0) (band_page_by code before v 0 start) (band-kept start code before v 0 fits)
      (band-as-write start code before v 0)
    where
      given : InBand v 0 v
      given = record { low = omega arith; high = omega arith; fits = fits }

      plain-ground : value_ground code 0 (length before) ≡ write_ground house code band_bytes band_strips (length before) 2
      plain-ground = value-ground code 0 (length before) (band-permitted 0 (omega arith))

      go : (r : BandAnswer) (page : List ℕ) → BandPromised start (value_ground code 0 (length before)) code before v 0 page r
          → AsWrite start code before v 0 r page
          → (plain_answer r ≡ answer_of house code band_bytes band_strips before (value_bytes v))
          × (page ≡ page_by house code band_bytes band_strips before (value_bytes v) start)
      go r page (stored g p) a = let z = rw (only-value p.near) at a in (sym z.0, z.1)
      go r page (all-spent g n k) a =
          let z = plain-spent (wrote_by start none house code band_bytes band_strips before (value_bytes v) (value-octets v fits))
          (sym plain-ground ∙ g) (n v given) in
          (z.0, k ∙ z.1)
      go r page (not_begun g k) a =
          let z = refused-call start none house code band_bytes band_strips before (value_bytes v) (sym plain-ground ∙ g) in
          (z.0, k ∙ z.1)

-- IT COSTS AT MOST 896: each of 32 cells rises by one at the most, for 28 at the most
pub band-largest : (code : ℕ) (before : List ℕ) (v M : ℕ) → v ≤ 65535 → {r : BandAnswer} → r ≡ band_answer code before v M
    → value_of (plain_answer r) ≤ largest_band_cost
band-largest code before v M fits {r} e =
    go r (rw (sym e) at (band-wrote code before v M fits)) (rw (sym e) at (band-as-write start_of code before v M))
  where
    go : (r : BandAnswer) → WroteBand code before v M (band_page code before v M) r
        → AsWrite start_of code before v M r (band_page code before v M) → value_of (plain_answer r) ≤ largest_band_cost
    go (B.Done cost w) (stored g p) a =
        let m = write-most none house (three-weights 16 20 28 (omega arith) (omega arith) (omega arith)) code band_bytes band_strips before
        (value_bytes w) (value-octets w p.near.fits) 28 house-most cost a.0 in
        omega (arith, rw (one_bit-cells band_bytes) at m)
    go B.Spent q a = omega arith
    go (B.Refused s) q a = omega arith

-- A WRITE IN A BAND that answers so and leaves this page keeps its promise and the bound
pub write-band-kept : (code : ℕ) (before : List ℕ) (v M : ℕ) → v ≤ 65535 → {after : List ℕ} {r : BandAnswer}
    → r ≡ band_answer code before v M → after ≡ band_page code before v M
    → WroteBand code before v M after r × (value_of (plain_answer r) ≤ largest_band_cost)
write-band-kept code before v M fits e p = (rw (p, e) (band-wrote code before v M fits), band-largest code before v M fits e)
