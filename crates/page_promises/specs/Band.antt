-- A TEMPERATURE NEED NOT BE EXACT (document 02, K6): a write that may store any value of a band.
--   value_bytes w                 the data of a value
--   value_job                     the plain write of a value
--   InBand v M w                  the values of the band
--   away v w                      how far a value is from the one given
--   lowest_value, value_count     the values of the band from the lowest on, and how many they are; value_at, the one at a place
--   band_choice                   the choice among them
--   band_answer_by, chosen_page   the answer and the page after it, by the ground of a refusal and what is chosen
--   band_answer                   the answer
--   band_page_by, band_page       the page after it, by any order of the raises, and by this release's
--   band_cells                    the cells of the page
--   Behind, BandCheapest          what it picks among ALL pages that read as any value of the band
--   BandPromised, WroteBand       what it promises, on every input; of this release
--   largest_band_cost             it costs at most this
use Rattle.std.specs.Prelude.{◌≡◌, List, [], ◌∷◌, ℕ, ◌+◌, ◌-◌, ◌*◌, ◌/◌, ◌%◌, ◌<◌, ◌≤◌, min, length}
use Rattle.std.proofs.Math.Option.{Option, none, some}
use Rattle.cells.specs.Levels.{level}
use Rattle.cells.specs.Raising.{start_of}
use Rattle.cells.specs.Climbs.{house}
use Rattle.codes.specs.Layouts.{one_bit, cell_count}
use Rattle.refusals.specs.Refusals.{band_bytes, band_strips, value_ground}
use Rattle.demand.specs.Jobs.{Job}
use Rattle.demand.specs.Demand.{Could, LowerAtFirst, job_cost, Cheapest}
use Rattle.demand.specs.Offers.{Offer, choose}
use Rattle.page_promises.specs.Writes.{job_of, job_page}
use Rattle.page_promises.specs.Families.{job_offer}
use Rattle.refusals.specs.declared.Refusal.{Refusal}
use Rattle.page_answers.specs.declared.BandAnswer.{BandAnswer}
use Rattle.page_answers.specs.declared.BandAnswer.TheVariants as B

-- 'stored as a 16-bit value, low byte first'
abbrev pub value_bytes : ℕ → List ℕ
value_bytes w = w % 256 ∷ w / 256 ∷ []

-- the plain write of a value, 'on a page with L = 2 and S = 1', 'with one bit a cell, no marked cells and the house weights'
abbrev pub value_job : ℕ → List ℕ → ℕ → Job
value_job code before w = job_of house code band_bytes band_strips before (value_bytes w)

-- 'any value from 0 to 65,535 that is at most M away'
pub record InBand (v M w : ℕ) : Type 0 where
  pub low : v ≤ w + M
  pub high : w ≤ v + M
  pub fits : w ≤ 65535

-- how far w is from v
abbrev pub away : ℕ → ℕ → ℕ
away v w = (v - w) + (w - v)

-- the values of the band from the lowest on, and how many
abbrev pub lowest_value : (v M : ℕ) → ℕ
lowest_value v M = v - M

abbrev pub value_at : (v M : ℕ) → ℕ → ℕ
value_at v M i = lowest_value v M + i

abbrev pub value_count : (v M : ℕ) → ℕ
value_count v M = min 65535 (v + M) + 1 - lowest_value v M

-- a call
module _ (code : ℕ) (before : List ℕ) (v M : ℕ) where
  -- 'It takes the cheapest page over all of these. Between values at the same cost it takes the nearest, then the lower.'
  unfoldable pub band_choice : Option Offer
  band_choice = choose (λ i. away v (value_at v M i)) (λ i. job_offer (value_job code before (value_at v M i))) (value_count v M)

  -- the answer, by the ground of a refusal and what is chosen
  abbrev pub band_answer_by : Option Refusal → Option Offer → BandAnswer
  band_answer_by (some r) o = B.Refused r
  band_answer_by none none = B.Spent
  band_answer_by none (some o) = B.Done o.cost (value_at v M o.number)

  -- the page after it
  abbrev pub chosen_page : Option Refusal → Option Offer → (start : ℕ → ℕ) → List ℕ
  chosen_page (some r) o start = before
  chosen_page none none start = before
  chosen_page none (some o) start = job_page none (value_job code before (value_at v M o.number)) start

  -- THE ANSWER
  unfoldable pub band_answer : BandAnswer
  band_answer = band_answer_by (value_ground code M (length before)) band_choice

  -- THE PAGE after a write whose raises start where `start` says
  unfoldable pub band_page_by : (start : ℕ → ℕ) → List ℕ
  band_page_by start = chosen_page (value_ground code M (length before)) band_choice start

  -- and after a write of this release
  abbrev pub band_page : List ℕ
  band_page = band_page_by start_of

-- the cells of the page
abbrev pub band_cells : ℕ
band_cells = cell_count one_bit band_bytes * band_strips

-- a page at the same cost that reads as u comes behind the page picked, which stores w: u is farther from v, or as far and higher, or the
-- same and the page picked has the lower level at the first cell whose levels differ
pub data Behind (v w : ℕ) (after : List ℕ) (u : ℕ) (other : List ℕ) : Type 0 where
  farther : away v w < away v u → Behind v w after u other
  higher : away v w ≡ away v u → w < u → Behind v w after u other
  same_value : w ≡ u → ((c : ℕ) → c < band_cells → (level after c ≡ level other c → ⊥) → LowerAtFirst band_cells after other)
      → Behind v w after u other

-- WHAT IT PICKS, among all pages that read as any value of the band with no cell lowered: the value stored is one of the band, and its
-- page the cheapest for it, which is then the page of all
pub record BandCheapest (start : ℕ → ℕ) (code : ℕ) (before : List ℕ) (v M : ℕ) (after : List ℕ) (cost w : ℕ) : Type 0 where
  pub near : InBand v M w
  pub picked : Cheapest start (value_job code before w) after cost
  pub least : (u : ℕ) → InBand v M u → (other : List ℕ) → Could (value_job code before u) other
      → cost ≤ job_cost (value_job code before u) other
  pub among_equals : (u : ℕ) → InBand v M u → (other : List ℕ) → Could (value_job code before u) other
      → job_cost (value_job code before u) other ≡ cost
      → Behind v w after u other

-- WHAT IT PROMISES. Done: that page. Spent: 'exactly if the page is spent for every value in the band', so that no page could be, and
-- nothing is changed. Refused: by the first ground of the list, and nothing is changed
pub data BandPromised (start : ℕ → ℕ) (g : Option Refusal) (code : ℕ) (before : List ℕ) (v M : ℕ) (after : List ℕ) : BandAnswer → Type 0
  where
    stored : {cost w : ℕ} → g ≡ none → BandCheapest start code before v M after cost w
        → BandPromised start g code before v M after (B.Done cost w)
    all-spent : g ≡ none → ((u : ℕ) → InBand v M u → (other : List ℕ) → Could (value_job code before u) other → ⊥) → after ≡ before
        → BandPromised start g code before v M after B.Spent
    not_begun : {r : Refusal} → g ≡ some r → after ≡ before → BandPromised start g code before v M after (B.Refused r)

-- of a call of this release
abbrev pub WroteBand : (code : ℕ) (before : List ℕ) (v M : ℕ) (after : List ℕ) → BandAnswer → Type 0
WroteBand code before v M after r = BandPromised start_of (value_ground code M (length before)) code before v M after r

-- no cell of the 32 rises by more than one, at 28 at the most
abbrev pub largest_band_cost : ℕ
largest_band_cost = 896
