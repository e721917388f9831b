-- THE TABLE OF PRICES.
--   steps-le, steps-are         the steps of three weights of a byte each, and of marked cells
--   price-nothing, price-step   what a cell costs to show a bit, in 256ths
--   row-price                   the prices of a row are those of its two cells
--   row-shown, row-raised       what a word of a row costs: the second cell alone, or both
--   second-label, second-other  what the second cell of a row costs
--   table_filled                the table of all
use mathlib.Core.Path.{◌≡◌, refl, sym, ◌∙◌, ap}
use mathlib.Core.Bool.{Bool, true, false, cond}
use mathlib.Core.List.{List, [], ◌∷◌}
use Prim.Native.Nat.{ℕ, zero, suc, ◌+◌, ◌-◌, ◌*◌, ◌/◌, ◌%◌, ◌<◌, ◌≤◌, min}
use native.Mathlib.Omega.{arith}
use native.Mathlib.Nat.{min-eq_left, min-eq_right, min-le_right}
use lib.Dec.{eqb, ltb}
use lib.ListN.{length, get_or, replicate, get_or-eq_default}
use borrow.Author.Tests.{eq-eqb, ne_eqb, ltb-true, ltb-false}
use Rattle.cells.specs.Climbs.{weight_of}
use Rattle.stages.specs.Stage.{closed, ceiling, pick}
use Rattle.prices.specs.Prices.{step_list, price_for, row_price, Table}

-- PRICES. Where no weight is more than a byte, no step is more than closed
pub steps-le : (W : List ℕ) → ((i : ℕ) → get_or W i 0 ≤ 255) → (i : ℕ) → get_or (step_list W) i 0 ≤ closed
unfolding step_list
steps-le [] h i = get_or-replicate-le 5 i
  where
    get_or-replicate-le : (n i : ℕ) → get_or (replicate n closed) i 0 ≤ closed
    get_or-replicate-le zero i = omega arith
    get_or-replicate-le (suc n) zero = omega arith
    get_or-replicate-le (suc n) (suc i) = get_or-replicate-le n i
steps-le (w ∷ W) h zero = omega (arith, h 0)
steps-le (w ∷ W) h (suc i) = steps-le W (λ i. h (suc i)) i

-- the three weights and closed are the steps
pub steps-are : (W : List ℕ) → length W ≡ 3
    → weight_of W 0 ∷ weight_of W 1 ∷ weight_of W 2 ∷ closed ∷ closed ∷ closed ∷ closed ∷ closed ∷ [] ≡ step_list W
unfolding step_list weight_of
steps-are [] e = absurd (let z : ⊥ = omega arith in z)
steps-are (a ∷ []) e = absurd (let z : ⊥ = omega arith in z)
steps-are (a ∷ b ∷ []) e = absurd (let z : ⊥ = omega arith in z)
steps-are (a ∷ b ∷ c ∷ []) e = refl
steps-are (a ∷ b ∷ c ∷ d ∷ W) e = absurd (let z : ⊥ = omega arith in z)

-- a cell that shows the bit already costs nothing
pub price-nothing : (steps : List ℕ) (l v : ℕ) → l % 2 ≡ v → 0 ≡ 256 * price_for steps l v
unfolding price_for
price-nothing steps l v e = rw (eq-eqb (l % 2) v e)

-- any other costs its step
pub price-step : (steps : List ℕ) (l v : ℕ) → (l % 2 ≡ v → ⊥) → 256 * get_or steps l 0 ≡ 256 * price_for steps l v
unfolding price_for
price-step steps l v e = rw (ne_eqb (l % 2) v e)

-- and no more than closed
pub price-most : (steps : List ℕ) → ((i : ℕ) → get_or steps i 0 ≤ closed) → (l v : ℕ) → price_for steps l v ≤ closed
unfolding price_for
price-most steps cut l v = go (eqb (l % 2) v)
  where
    go : (b : Bool) → cond b 0 (get_or steps l 0) ≤ closed
    go true = omega arith
    go false = cut l

-- THE TABLE. Two numbers in 256ths, cut off at closed
cut-both : (x y : ℕ) → min (256 * x + 256 * y) ceiling ≡ 256 * min (x + y) closed
cut-both x y = go (ltb (x + y) closed) refl
  where
    go : (b : Bool) → ltb (x + y) closed ≡ b → min (256 * x + 256 * y) ceiling ≡ 256 * min (x + y) closed
    go true e =
        let l : x + y < closed = ltb-true (x + y) closed e in
        let p : 256 * x + 256 * y ≤ ceiling = omega arith in
        let q : x + y ≤ closed = omega arith in
        rw (min-eq_left p, min-eq_left q) (omega arith)
    go false e =
        let l : closed ≤ x + y = ltb-false (x + y) closed e in
        let p : ceiling ≤ 256 * x + 256 * y = omega arith in
        rw (min-eq_right p, min-eq_right l)

-- THE PRICES of a row are those of its two cells
pub row-price : (steps : List ℕ) (r j : ℕ) → r < 64 → j ≤ 3 → row_price steps (4 * r + j)
    ≡ min (price_for steps (r % 8) (j % 2) + price_for steps (r / 8 % 4) ((j / 2 + r / 32) % 2)) closed
unfolding row_price
row-price steps r j h l =
    let a : (4 * r + j) / 4 ≡ r = omega arith in
    let b : (4 * r + j) % 2 ≡ j % 2 = omega arith in
    let c : (4 * r + j) / 32 ≡ r / 8 = omega arith in
    let d : (4 * r + j) / 2 ≡ 2 * r + j / 2 = omega arith in
    let e : (4 * r + j) / 128 ≡ r / 32 = omega arith in
    let f : (2 * r + j / 2 + r / 32) % 2 ≡ (j / 2 + r / 32) % 2 = omega arith in
    rw (a, b, c, d, e, f)

-- so is the price that the program makes of them, in 256ths
row_cut : (steps : List ℕ) (r j x y : ℕ) → r < 64 → j ≤ 3 → x ≡ 256 * price_for steps (r % 8) (j % 2)
    → y ≡ 256 * price_for steps (r / 8 % 4) ((j / 2 + r / 32) % 2) → min (x + y) ceiling ≡ 256 * row_price steps (4 * r + j)
row_cut steps r j x y h l e f = rw (e, f, row-price steps r j h l) (cut-both _ _)

-- a word that asks of the first cell the bit that it shows costs what the second does
pub row-shown : (steps : List ℕ) → ((i : ℕ) → get_or steps i 0 ≤ closed) → (r j y : ℕ) → r < 64 → j ≤ 3 → r % 2 ≡ j % 2
    → y ≡ 256 * price_for steps (r / 8 % 4) ((j / 2 + r / 32) % 2) → y ≡ 256 * row_price steps (4 * r + j)
row-shown steps cut r j y h l e f =
    let m : r % 8 % 2 ≡ j % 2 = omega arith in
    let n : y ≤ ceiling = omega (arith, price-most steps cut (r / 8 % 4) ((j / 2 + r / 32) % 2)) in
    let z : 0 + y ≡ y = omega arith in
    sym (rw z (min-eq_left n)) ∙ row_cut steps r j 0 y h l (price-nothing steps (r % 8) (j % 2) m) f

-- any other costs the first cell's step too
pub row-raised : (steps : List ℕ) (r j y : ℕ) → r < 64 → j ≤ 3 → (r % 2 ≡ j % 2 → ⊥)
    → y ≡ 256 * price_for steps (r / 8 % 4) ((j / 2 + r / 32) % 2)
    → min (256 * get_or steps (r % 8) 0 + y) ceiling ≡ 256 * row_price steps (4 * r + j)
row-raised steps r j y h l e f =
    let m : r % 8 % 2 ≡ r % 2 = omega arith in
    row_cut steps r j (256 * get_or steps (r % 8) 0) y h l (price-step steps (r % 8) (j % 2) (λ z. e (sym m ∙ z))) f

-- of two numbers whose sum is odd, the bit of the one is not that of the other
unlike : (m b t : ℕ) → b ≤ 1 → (m + b) % 2 ≡ suc t → m % 2 ≡ 1 - b
unlike m zero t h e = omega arith
unlike m (suc zero) t h e = omega arith
unlike m (suc (suc b)) t h e = absurd (let z : ⊥ = omega arith in z)

-- and where it is even, it is
alike : (m b : ℕ) → b ≤ 1 → (m + b) % 2 ≡ 0 → m % 2 ≡ 1 - b → ⊥
alike m zero h e f = omega arith
alike m (suc zero) h e f = omega arith
alike m (suc (suc b)) h e f = omega arith

-- THE SECOND CELL of a row, of which a word asks the label or the other bit
module _ (steps : List ℕ) (r : ℕ) (h : r < 64) where
  pub second-label : pick ((r / 8 + r / 32) % 2) 0 (256 * get_or steps (r / 8 % 4) 0) ≡ 256 * price_for steps (r / 8 % 4) (r / 32)
  second-label = go ((r / 8 + r / 32) % 2) refl
    where
      go : (t : ℕ) → (r / 8 + r / 32) % 2 ≡ t
          → pick t 0 (256 * get_or steps (r / 8 % 4) 0) ≡ 256 * price_for steps (r / 8 % 4) (r / 32)
      go zero e = price-nothing steps (r / 8 % 4) (r / 32) (omega arith)
      go (suc t) e = price-step steps (r / 8 % 4) (r / 32) (λ z. omega arith)

  pub second-other : pick ((r / 8 + r / 32) % 2) (256 * get_or steps (r / 8 % 4) 0) 0 ≡ 256 * price_for steps (r / 8 % 4) (1 - r / 32)
  second-other = go ((r / 8 + r / 32) % 2) refl
    where
      go : (t : ℕ) → (r / 8 + r / 32) % 2 ≡ t
          → pick t (256 * get_or steps (r / 8 % 4) 0) 0 ≡ 256 * price_for steps (r / 8 % 4) (1 - r / 32)
      go zero e =
          let m : r / 8 % 4 % 2 ≡ r / 8 % 2 = omega arith in
          price-step steps (r / 8 % 4) (1 - r / 32) (λ z. alike (r / 8) (r / 32) (omega arith) e (sym m ∙ z))
      go (suc t) e =
          let m : r / 8 % 4 % 2 ≡ r / 8 % 2 = omega arith in
          price-nothing steps (r / 8 % 4) (1 - r / 32) (m ∙ unlike (r / 8) (r / 32) t (omega arith) e)

-- no price is more than closed
price-le : (steps : List ℕ) (k : ℕ) → row_price steps k ≤ closed
unfolding row_price
price-le steps k = min-le_right _ closed

-- 256 places that hold their prices are the table
pub table_filled : (W steps rows : List ℕ) → steps ≡ step_list W → length rows ≡ 256
    → ((k : ℕ) → k < 256 → get_or rows k 0 ≡ 256 * row_price steps k) → Table W rows
table_filled W steps rows s e p = record {
  prices = λ k h. p k h ∙ ap (λ (l : List ℕ). 256 * row_price l k) s;
  cut = λ k. go k (ltb k 256) refl;
}
  where
    go : (k : ℕ) (b : Bool) → ltb k 256 ≡ b → get_or rows k 0 ≤ ceiling
    go k true f = omega (arith, p k (ltb-true k 256 f), price-le steps k)
    go k false f = let l : length rows ≤ k = omega (arith, ltb-false k 256 f) in omega (arith, get_or-eq_default rows 0 l)
