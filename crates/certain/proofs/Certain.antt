-- THE PAGE on which every cell is below level k, with k at most 3 and no cell marked: a write is done, and costs at most 8·L·S times the
-- greatest of the first k weights. It leaves every cell below level k + 1. So the first three writes after an erase are certain.
--   dearest-most                     no weight of the first k is above the greatest
--   permitted-none                   a call that is permitted has no ground
--   turn-certain, turn_low           one write, with any map that marks nothing, and wherever the raises start: its answer, and the page
--                                    after it
--   no-marks                         no map marks no cell
--   erased-low                       an erased page is such a page
--   erase-low, erase-mapped-low      and so is what an accepted erase leaves
--   three-certain                    THE FIRST THREE WRITES
--   house-permitted, house-figures   the house's weights
use mathlib.Core.Path.{◌≡◌, refl, ◌∙◌, ap}
use mathlib.Core.Bool.{Bool, true, false}
use mathlib.Core.List.{List}
use mathlib.Core.Option.{Option, none}
use Prim.Native.Nat.{ℕ, zero, suc, ◌<◌, ◌≤◌, ◌*◌, ◌/◌, max}
use native.Mathlib.Omega.{arith}
use lib.Dec.{ltb}
use lib.IntN.{ℤ}
use lib.ListN.{length, replicate, length-replicate}
use borrow.Author.Tests.{ltb-true, ltb-false}
use Rattle.cells.specs.Climbs.{weight_of, house}
use Rattle.cells.specs.Raising.{start_of}
use Rattle.cells.specs.Marks.{emptied}
use Rattle.cells.proofs.Marks.{emptied-length, emptied-other}
use Rattle.codes.specs.Layouts.{one_bit, stage_count, byte_count}
use Rattle.codes.proofs.Layouts.{one_bit-stages}
use Rattle.search.proofs.Layouts.{one_bit-parity}
use Rattle.search.proofs.Within.{both-lead}
use Rattle.demand.proofs.Within.{page-within}
use Rattle.refusals.specs.Refusals.{sizes_ground, free_step, weights_ground}
use Rattle.refusals.proofs.Refusals.{none-applies, erasing-shape}
use Rattle.page_promises.specs.Writes.{job_answer, marked_by, map_size, ground_with, job_with, answer_with, page_with}
use Rattle.page_promises.proofs.Promise.{numbered-both, job-in-order, dear-by, page-length}
use Rattle.page_promises.proofs.Bounds.{three-weights, write-near}
use Rattle.page_ledger.specs.Ledger.{erasing}
use Rattle.page_ledger.proofs.Ledger.{erased-level}
use Rattle.page_ledger.specs.Marks.{NoneMarked}
use Rattle.certain.specs.Certain.{Permitted, DataFor, Low, dearest, certain_most, Sure, written_page, certain_writes, Certain}

-- no weight of the first k is above the greatest
pub dearest-most : (k : ℕ) (W : List ℕ) (l : ℕ) → l < k → weight_of W l ≤ dearest k W
unfolding dearest
dearest-most zero W l h = absurd (let z : ⊥ = omega arith in z)
dearest-most (suc k) W l h = go (ltb l k) refl (dearest-most k W l)
  where
    go : (b : Bool) → ltb l k ≡ b → (l < k → weight_of W l ≤ dearest k W) → weight_of W l ≤ max (dearest k W) (weight_of W k)
    go true e f = omega (arith, f (ltb-true l k e))
    go false e f = let z : l ≡ k = omega (arith, ltb-false l k e) in rw z (omega arith)

-- ONE WRITE, with a map that marks no cell or without one
module _ {map : Option (List ℕ)} {W : List ℕ} {code L S k : ℕ} {page content : List ℕ} (P : Permitted W code L S) (N : NoneMarked L S map)
    (D : DataFor L S content) (low : Low L S k page) where
  -- has no ground
  permitted-none : ground_with map W code L S page content ≡ none
  permitted-none =
      none-applies none (map_size map) W code L S (length page) (length content) P.sizes P.not_free refl N.right low.size
      D.size

  -- it is done, for at most 8·L·S times the greatest of the first k weights
  pub turn-certain : k ≤ certain_writes → Sure (certain_most L S k W) (answer_with map W code L S page content)
  unfolding answer_with job_answer
  turn-certain h =
      let w = page-within (job_with map W code L S page content) (job-in-order map W code L S page content D.octets permitted-none)
      one_bit-parity (both-lead (numbered-both code))
      (dear-by none (map_size map) W code L S (length page) (length content) permitted-none) k (dearest k W) (omega arith)
      (dearest-most k W) (λ c l. (N.none_marked c l, low.below c l)) in
      record { cost = w.found.cost; done = rw (permitted-none, w.is); bound = omega (arith, w.cheap, stages-cost) }
    where
      -- a raise a stage, at 8·L stages a strip
      stages-cost : S * (stage_count one_bit L * (2 / 2 * dearest k W)) ≡ certain_most L S k W
      stages-cost = ap (λ (n : ℕ). S * (n * (2 / 2 * dearest k W))) (one_bit-stages L) ∙ omega arith

  -- and raises no cell by more than one, wherever the raises start
  pub turn_low : (start : ℕ → ℕ) → Low L S (suc k) (page_with map W code L S page content start)
  turn_low start = record {
    size = page-length start map W code L S page content ∙ low.size;
    below = λ c h. omega (arith, write-near map W P.weights code L S page content D.octets start c h, low.below c h);
  }

-- no map marks no cell
pub no-marks : (L S : ℕ) → NoneMarked L S none
no-marks L S = record { right = refl; none_marked = λ c h. refl }

-- AN ERASED PAGE
pub erased-low : (L S size : ℕ) → size ≡ byte_count one_bit L * S → Low L S 1 (replicate size 0)
erased-low L S size e =
    record { size = length-replicate {A = ℕ} size 0 ∙ e; below = λ c h. omega (arith, erased-level size c) }

-- what an accepted erase leaves of any page: with no map it is zeros
pub erase-low : (L S : ℕ) (tenths : ℤ) (page : List ℕ) → erasing none L S tenths page ≡ none → Low L S 1 (replicate (length page) 0)
erase-low L S tenths page e = erased-low L S (length page) (erasing-shape none L S (length page) tenths e).page_is

-- and with one that marks no cell
pub erase-mapped-low : (map : Option (List ℕ)) (L S : ℕ) → NoneMarked L S map → (tenths : ℤ) (page : List ℕ)
    → erasing map L S tenths page ≡ none → Low L S 1 (emptied (marked_by map) page)
erase-mapped-low map L S N tenths page e = record {
  size = emptied-length (marked_by map) page ∙ (erasing-shape (map_size map) L S (length page) tenths e).page_is;
  below = λ c h. omega (arith, emptied-other (marked_by map) page c (N.none_marked c h));
}

-- THE FIRST THREE WRITES AFTER AN ERASE
pub three-certain : (code : ℕ) → Certain certain_most code certain_writes
unfolding written_page
three-certain code = record { sure = go }
  where
    go : (W : List ℕ) (L S : ℕ) → Permitted W code L S → (erased : List ℕ) → Low L S 1 erased → (datas : ℕ → List ℕ)
        → ((i : ℕ) → i < certain_writes → DataFor L S (datas i)) → (i : ℕ) → i < certain_writes
        → Sure (certain_most L S (suc i) W) (answer_with none W code L S (written_page W code L S erased datas i) (datas i))
    go W L S P erased low datas fit i h = turn-certain P (no-marks L S) (fit i h) (lows i (omega arith)) h
      where
        lows : (n : ℕ) → n ≤ certain_writes → Low L S (suc n) (written_page W code L S erased datas n)
        lows zero l = low
        lows (suc n) l = turn_low P (no-marks L S) (fit n l) (lows n (omega arith)) start_of

-- THE HOUSE'S WEIGHTS are permitted
pub house-permitted : (code L S : ℕ) → sizes_ground code L S ≡ none → Permitted house code L S
unfolding weights_ground free_step weight_of
house-permitted code L S s =
    record { sizes = s; not_free = refl; weights = three-weights 16 20 28 (omega arith) (omega arith) (omega arith) }

-- 'with the house weights 128·L·S, 160·L·S and 224·L·S'
pub house-figures : (L S : ℕ)
    → (certain_most L S 1 house ≡ 128 * L * S) × (certain_most L S 2 house ≡ 160 * L * S) × (certain_most L S 3 house ≡ 224 * L * S)
unfolding dearest weight_of
house-figures L S = (omega arith, omega arith, omega arith)
