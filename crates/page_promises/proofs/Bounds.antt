-- What a write cannot do, with any map and any weights of three bytes: raise a cell by more than one, or cost more than the dearest step
-- for each cell.
--   cells-most         the largest page has 65,536 cells
--   write-near         no cell rises by more than one
--   write-most         the cost is at most the dearest step for each cell
--   write-largest      so at most 65,536 times that
--   value-most         and no answer has a greater value
--   house-largest      which is 1,835,008 with the house's weights
--   weighted-largest   and 16,711,680 with any
--   write_kept         what answers so and leaves this page keeps promise and bound
use mathlib.Core.Path.{◌≡◌, refl, sym}
use mathlib.Core.Bool.{true}
use mathlib.Core.List.{List, [], ◌∷◌}
use mathlib.Core.Option.{Option, none, some}
use Prim.Native.Nat.{ℕ, zero, suc, ◌<◌, ◌≤◌, ◌*◌, ◌-◌}
use native.Mathlib.Omega.{arith}
use native.Mathlib.Nat.{mul-le-mul}
use lib.ListN.{length, get_or}
use Rattle.cells.specs.Bytes.{Octets}
use Rattle.cells.specs.Levels.{level}
use Rattle.cells.specs.Raising.{start_of, start_in, raised_to}
use Rattle.cells.specs.Climbs.{climb, cost_of, house, weight_of, Weights}
use Rattle.cells.proofs.Places.{sum_of-le}
use Rattle.cells.proofs.Climbs.{climb-stay, climb-step}
use Rattle.codes.specs.Layouts.{one_bit, cell_count}
use Rattle.codes.proofs.Layouts.{one_bit-cells}
use Rattle.search.specs.Best.{Solution}
use Rattle.search.specs.Levels.{level_at}
use Rattle.demand.specs.Demand.{job_cost}
use Rattle.demand.specs.Computed.{page_write}
use Rattle.demand.proofs.Demand.{solution-raised}
use Rattle.refusals.specs.Refusals.{one_to_64, numbered}
use Rattle.page_promises.specs.Writes.{call_page, job_page, marked_by, map_size, ground_with, job_with, page_with, answer_with, largest_cost}
use Rattle.page_promises.specs.Writes.{largest_weighted_cost}
use Rattle.page_answers.specs.Answers.{value_of}
use Rattle.page_promises.specs.Promise.{WroteWith, done, spent}
use Rattle.refusals.specs.declared.Refusal.{Refusal}
use Rattle.page_answers.specs.declared.Answer.{Answer}
use Rattle.page_answers.specs.declared.Answer.TheVariants as A
use Rattle.refusals.proofs.Refusals.{weighted-in-order, one-to-64, product-most}
use Rattle.page_promises.proofs.Promise.{numbered-suits, job-in-order, dear-by, wrote}
use Rattle.page_promises.proofs.Plans.{page-near}

-- any three bytes
pub three-weights : (a b c : ℕ) → a ≤ 255 → b ≤ 255 → c ≤ 255 → Weights (a ∷ b ∷ c ∷ [])
three-weights a b c x y z = record { three = refl; bytes = go }
  where
    go : (i : ℕ) → get_or (a ∷ b ∷ c ∷ []) i 0 ≤ 255
    go zero = x
    go (suc zero) = y
    go (suc (suc zero)) = z
    go (suc (suc (suc i))) = omega arith

-- a climb of at most one level costs at most the dearest step
climb-most : (weight : ℕ → ℕ) (w : ℕ) → ((l : ℕ) → weight l ≤ w) → (from to : ℕ) → from ≤ to → to ≤ suc from → climb weight from to ≤ w
climb-most weight w b from to h k = go (to - from) refl
  where
    go : (n : ℕ) → to - from ≡ n → climb weight from to ≤ w
    go zero e = let z : to ≡ from = omega arith in rw (z, climb-stay weight from) (omega arith)
    go (suc n) e = let z : to ≡ suc from = omega arith in rw (z, climb-step weight from) (b from)

-- the largest page has 65,536 cells
pub cells-most : (L S w : ℕ) → one_to_64 L ≡ true → one_to_64 S ≡ true → 16 * L * S * w ≤ 65536 * w
cells-most L S w l s =
    let m = product-most L S l s in
    let n : 16 * L * S ≤ 65536 = omega arith in
    mul-le-mul {n₁ = 16 * L * S} {m₁ = w} {n₂ = 65536} {m₂ = w} n (omega arith)

module _ (map : Option (List ℕ)) (W : List ℕ) (K : Weights W) (code L S : ℕ) (before content : List ℕ) (b : Octets content) where
  -- NO CELL RISES BY MORE THAN ONE in a write, wherever the raises start
  pub write-near : (start : ℕ → ℕ) (c : ℕ) → c < cell_count one_bit L * S
      → level (page_with map W code L S before content start) c ≤ suc (level before c)
  unfolding page_with job_page
  write-near start c h = go (ground_with map W code L S before content) refl (page_write (job_with map W code L S before content)) refl
    where
      go : (g : Option Refusal) → ground_with map W code L S before content ≡ g → (w : Option Solution)
          → page_write (job_with map W code L S before content) ≡ w
          → level (call_page g w (λ a. raised_to (start_in start (cell_count one_bit L)) before (level_at a.levels)) before) c
          ≤ suc (level before c)
      go (some r) e w f = omega arith
      go none e none f = omega arith
      go none e (some a) f =
          rw (solution-raised start (job_with map W code L S before content) (job-in-order map W code L S before content b e) a f c h)
          (page-near (numbered code) W (numbered-suits code W K)
          (dear-by none (map_size map) W code L S (length before) (length content) e) L S
          (one-to-64 L (weighted-in-order none (map_size map) W code L S (length before) (length content) e).bytes_in).1 before
          (marked_by map) content a f c h)

  -- THE COST of a write is at most w for each cell, where no step costs more
  module _ (w : ℕ) (most : (l : ℕ) → weight_of W l ≤ w) (cost : ℕ) (answer : answer_with map W code L S before content ≡ A.Done cost) where
    -- what is promised of it
    promised : WroteWith map W code L S before content (page_with map W code L S before content start_of) (A.Done cost)
    promised = rw answer at (wrote map W code L S before content b)

    pub write-most : cost ≤ cell_count one_bit L * S * w
    unfolding job_cost cost_of
    write-most = go promised
      where
        go : WroteWith map W code L S before content (page_with map W code L S before content start_of) (A.Done cost)
            → cost ≤ cell_count one_bit L * S * w
        go (done g p) =
            rw (← p.paid)
            (sum_of-le
            (cell_count one_bit L * S) w _ (λ c h. climb-most (weight_of W) w most (level before c)
            (level (page_with map W code L S before content start_of) c)
            (p.could.no_lower c h) (write-near start_of c h)))

    -- and so at most w for each cell of the largest page
    pub write-largest : cost ≤ 65536 * w
    write-largest = go promised
      where
        go : WroteWith map W code L S before content (page_with map W code L S before content start_of) (A.Done cost) → cost ≤ 65536 * w
        go (done g p) =
            let i = weighted-in-order none (map_size map) W code L S (length before) (length content) g in
            let r : cost ≤ 16 * L * S * w = rw (one_bit-cells L) at write-most in
            omega (arith, cells-most L S w i.bytes_in i.strips_in)

-- NO ANSWER HAS A GREATER VALUE, where no step costs more than w: the cost is at most that, and the number of a spent strip is below 64
pub value-most : (map : Option (List ℕ)) (W : List ℕ) → Weights W → (w : ℕ) → 0 < w → ((l : ℕ) → weight_of W l ≤ w)
    → (code L S : ℕ) (before content : List ℕ)
    → Octets content → {r : Answer} → r ≡ answer_with map W code L S before content → value_of r ≤ 65536 * w
value-most map W K w p most code L S before content b {r} e = go r (sym e) (rw (sym e) at (wrote map W code L S before content b))
  where
    go : (a : Answer) → answer_with map W code L S before content ≡ a
        → WroteWith map W code L S before content (page_with map W code L S before content start_of) a → value_of a ≤ 65536 * w
    go (A.Done cost) f q = write-largest map W K code L S before content b w most cost f
    go (A.Spent k) f (spent g q h) =
        let m = weighted-in-order none (map_size map) W code L S (length before) (length content) g in
        omega (arith, q.inside, (one-to-64 S m.strips_in).1)
    go (A.Refused r) f q = omega arith

-- THE HOUSE'S WEIGHTS: a step costs at most 28
pub house-most : (l : ℕ) → weight_of house l ≤ 28
unfolding weight_of
house-most zero = omega arith
house-most (suc zero) = omega arith
house-most (suc (suc zero)) = omega arith
house-most (suc (suc (suc l))) = omega arith

-- 'One write of the largest page costs at most 1,835,008.'
pub house-largest : (map : Option (List ℕ)) (code L S : ℕ) (before content : List ℕ) → Octets content → {r : Answer}
    → r ≡ answer_with map house code L S before content → value_of r ≤ largest_cost
house-largest map = value-most map house (three-weights 16 20 28 (omega arith) (omega arith) (omega arith)) 28 (omega arith) house-most

-- ANY WEIGHTS: a step costs at most 255, and 'one write of the largest page then costs at most 16,711,680'
pub weighted-largest : (map : Option (List ℕ)) (W : List ℕ) → Weights W → (code L S : ℕ) (before content : List ℕ) → Octets content
    → {r : Answer}
    → r ≡ answer_with map W code L S before content → value_of r ≤ largest_weighted_cost
unfolding weight_of
weighted-largest map W K = value-most map W K 255 (omega arith) K.bytes

-- A WRITE that answers so and leaves this page keeps its promise and the bound
pub write_kept : (map : Option (List ℕ)) (W : List ℕ) (code L S : ℕ) (before content : List ℕ) {after : List ℕ} {r : Answer} → Weights W
    → Octets content → after ≡ page_with map W code L S before content start_of → r ≡ answer_with map W code L S before content
    → WroteWith map W code L S before content after r × (value_of r ≤ largest_weighted_cost)
write_kept map W code L S before content K b p e =
    (rw (p, e) (wrote map W code L S before content b), weighted-largest map W K code L S before content b e)
