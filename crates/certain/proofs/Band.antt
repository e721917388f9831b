-- THE FIRST THREE WRITES AFTER AN ERASE are certain in a band too: it is never spent where the plain write is not, and never costs more.
--   band-certain    where every cell is below level k, with k at most 3, it is done within the k-th bound
--   band-low        and leaves every cell below level k + 1
use mathlib.Core.Path.{◌≡◌, refl, ◌∙◌, ap}
use mathlib.Core.List.{List}
use mathlib.Core.Option.{none}
use Prim.Native.Nat.{ℕ, suc, ◌≤◌}
use native.Mathlib.Omega.{arith}
use Rattle.cells.specs.Climbs.{house}
use Rattle.refusals.specs.Refusals.{band_bytes, band_strips, code_ground}
use Rattle.refusals.proofs.Refusals.{code-ground}
use Rattle.page_answers.specs.Answers.{plain_answer}
use Rattle.page_answers.specs.declared.Answer.TheVariants as A
use Rattle.page_answers.specs.declared.BandAnswer.{BandAnswer}
use Rattle.page_answers.specs.declared.BandAnswer.TheVariants as B
use Rattle.page_promises.specs.Band.{value_bytes, band_answer, band_page_by}
use Rattle.page_promises.proofs.Band.{value-octets, band-zero, band-keeps, wider}
use Rattle.certain.specs.Certain.{Permitted, DataFor, Low, certain_most, Sure, certain_writes}
use Rattle.certain.proofs.Certain.{turn-certain, turn_low, no-marks, house-permitted}

-- an answer that is done as a write's is done
plain_done : (r : BandAnswer) {cost : ℕ} → plain_answer r ≡ A.Done cost → (w : ℕ) × (r ≡ B.Done cost w)
plain_done (B.Done c w) e = (w, cc)
plain_done B.Spent e = let z : ◌≡◌ {A = ℕ} 0 1 = cc in absurd (omega arith)
plain_done (B.Refused r) e = let z : ◌≡◌ {A = ℕ} 0 1 = cc in absurd (omega arith)

-- the data of a value
value-data : (w : ℕ) → w ≤ 65535 → DataFor band_bytes band_strips (value_bytes w)
value-data w h = record { size = refl; octets = value-octets w h }

module _ (code : ℕ) (known : code_ground code ≡ none) {k : ℕ} {page : List ℕ} (low : Low band_bytes band_strips k page) (v M : ℕ)
    (fits : v ≤ 65535)
  where
    permitted : Permitted house code band_bytes band_strips
    permitted = house-permitted code band_bytes band_strips (code-ground code ∙ known)

    -- IT IS DONE, within the k-th bound
    pub band-certain : k ≤ certain_writes → M ≤ 8
        → Sure (certain_most band_bytes band_strips k house) (plain_answer (band_answer code page v M))
    band-certain h m =
        let s = turn-certain permitted (no-marks band_bytes band_strips) (value-data v fits) low h in
        let e = plain_done (band_answer code page v 0) ((band-zero (λ n. 0) code page v fits).0 ∙ s.done) in
        let r = wider code page v 0 M fits (omega arith) m s.cost e.0 e.1 in
        record { cost = r.0; done = ap plain_answer r.2; bound = omega (arith, r.3, s.bound) }

    -- and leaves every cell below level k + 1
    pub band-low : (start : ℕ → ℕ) → Low band_bytes band_strips (suc k) (band_page_by code page v M start)
    band-low start =
        band-keeps start code page v M fits (Low band_bytes band_strips (suc k))
        (λ w h. turn_low permitted (no-marks band_bytes band_strips) (value-data w h) low start)
        (record { size = low.size; below = λ c h. omega (arith, low.below c h) })
