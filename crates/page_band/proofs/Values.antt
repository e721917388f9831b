-- THE VALUES OF A BAND, as the program tries them.
--   house-weighed   the house's weights are three bytes
--   lent-in-order   the page, the weights and the data that are lent are in order
--   lent-job        and make the value's plain write
--   sixteen-bits    a number of 16 bits is at most 65,535
--   tried           the choice among the first values of the band
--   turn-tried      one more value
--   all-tried       the choice among all of them is the band's
--   place-fits      and so is the value chosen
use mathlib.Core.Path.{◌≡◌, refl, ◌∙◌}
use mathlib.Core.Bool.{Bool}
use mathlib.Core.List.{List}
use mathlib.Core.Option.{Option, none, some}
use Prim.Native.Nat.{ℕ, ◌+◌, ◌≤◌}
use native.Mathlib.Omega.{arith}
use lib.ListN.{length}
use mir.Syntax.{w16}
use mir.Val.{Fits}
use Rattle.cells.specs.Climbs.{house, Weights}
use Rattle.codes.specs.Generators.{Generators}
use Rattle.codes.specs.Layouts.{one_bit}
use Rattle.search.specs.Strip.{Dear, steps_of}
use Rattle.search.specs.Layouts.{unmarked}
use Rattle.demand.specs.Offers.{Offer, with_offer, choose}
use Rattle.demand.proofs.Offers.{choose-more}
use Rattle.refusals.specs.Refusals.{band_bytes, band_strips, numbered}
use Rattle.refusals.proofs.Refusals.{weighted-in-order}
use Rattle.page_parts.specs.Shape.{Sized}
use Rattle.page_parts.proofs.Strips.{sized-by}
use Rattle.page_promises.specs.Writes.{ground_with, one_bit_job, job_answer}
use Rattle.page_answers.specs.Answers.{offered}
use Rattle.page_answers.specs.declared.Answer.{Answer}
use Rattle.page_promises.specs.Families.{job_offer}
use Rattle.page_promises.specs.Band.{value_bytes, value_job, away, lowest_value, value_at, value_count, band_choice}
use Rattle.page_promises.proofs.Promise.{dear-by}
use Rattle.page_promises.proofs.Bounds.{three-weights}
use Rattle.page_promises.proofs.Band.{chosen-fits}

-- the house's weights are three bytes
pub house-weighed : Weights house
house-weighed = three-weights 16 20 28 (omega arith) (omega arith) (omega arith)

module _ (code : ℕ) (page : List ℕ) (w : ℕ) {W content : List ℕ} (weights : W ≡ house) (bytes : content ≡ value_bytes w) where
  -- the page, the weights and the data that are lent are in order
  pub lent-in-order : ground_with none house code band_bytes band_strips page (value_bytes w) ≡ none
      → Sized one_bit band_bytes band_strips page content × Dear (steps_of W)
  lent-in-order g = rw (weights, bytes) (
    sized-by band_bytes band_strips page (value_bytes w) (weighted-in-order none none house code band_bytes band_strips (length page) 2 g),
    dear-by none none house code band_bytes band_strips (length page) 2 g,
  )

  -- and make the value's plain write
  pub lent-job : {G : Generators} {marks : ℕ → Bool} → G ≡ numbered code → marks ≡ unmarked
      → one_bit_job marks G W band_bytes band_strips page content ≡ value_job code page w
  lent-job g m = rw (weights, bytes, g, m) refl

-- a number of 16 bits is at most 65,535
pub sixteen-bits : {v : ℕ} → Fits w16 v → v ≤ 65535
sixteen-bits f = let h = f.fits in omega arith

-- THE LOOP over the values. The choice among the first n of them
abbrev pub tried : (code : ℕ) (page : List ℕ) (v M : ℕ) → ℕ → Option Offer
tried code page v M n = choose (λ i. away v (value_at v M i)) (λ i. job_offer (value_job code page (value_at v M i))) n

-- one more value, by its distance and what it is priced at
pub turn-tried : (code : ℕ) (page : List ℕ) (v M k : ℕ) {w distance : ℕ} {price : Answer} {so_far after : Option Offer} → w ≡ value_at v M k
    → price ≡ job_answer none (value_job code page w) → distance ≡ away v w → so_far ≡ tried code page v M k
    → after ≡ with_offer so_far k distance (offered price) → after ≡ tried code page v M (k + 1)
turn-tried code page v M k w p d s a =
    choose-more (λ i. away v (value_at v M i)) (λ i. job_offer (value_job code page (value_at v M i))) k s (a ∙ rw (d, p, w) refl)

-- after the last turn the choice is the band's
pub all-tried : (code : ℕ) (page : List ℕ) (v M : ℕ) {count k : ℕ} → count ≡ value_count v M → k ≤ count → count ≤ k
    → tried code page v M k ≡ band_choice code page v M
unfolding band_choice
all-tried code page v M {count} {k} n a b = let z : k ≡ count = omega arith in rw (z, n) refl

-- the value chosen is at most 65,535 too
pub place-fits : (code : ℕ) (page : List ℕ) (v M : ℕ) {low : ℕ} {o : Offer} → v ≤ 65535 → low ≡ lowest_value v M
    → band_choice code page v M ≡ some o → low + o.number ≤ 65535
place-fits code page v M f l e = rw l (chosen-fits code page v M f e)
