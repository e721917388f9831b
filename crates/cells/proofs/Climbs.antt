-- What a climb costs, for any weights of the steps.
--   climb-stay    a cell that stays costs nothing
--   climb-step    a climb of one level costs its step
--   climb-more    one level more costs its last step more
--   climb-same    a climb costs what its number of steps from its level says
--   climb-rises   a higher climb costs more, where no step is free
--   climb-onward  a climb and one from where it ends are a climb
--   climb-whole   no climb costs more than that from level 0 to the top
--   cost-stay     a page that stays costs nothing
--   cost-onward   a change that lowers no cell and another are a change, for the cost of both
--   cost_most     no change costs more than a climb through all three steps for each cell
use mathlib.Core.Path.{◌≡◌, refl, ◌∙◌, ap}
use mathlib.Core.List.{List}
use Prim.Native.Nat.{ℕ, zero, suc, ◌<◌, ◌≤◌, ◌+◌, ◌*◌, ◌-◌}
use native.Mathlib.Omega.{arith}
use native.Mathlib.Nat.{not-suc-le-zero}
use Rattle.cells.specs.Places.{sum_of}
use Rattle.cells.specs.Levels.{level}
use Rattle.cells.specs.Climbs.{climb, cost_of}
use Rattle.cells.proofs.Places.{sum_of-same, sum_of-more, sum_of-le, sum_of-zero, sum_of-add, sum_of-append}
use Rattle.cells.proofs.Levels.{level-bound}

module _ (w : ℕ → ℕ) where
  -- a cell that stays costs nothing
  pub climb-stay : (v : ℕ) → climb w v v ≡ 0
  unfolding climb sum_of
  climb-stay v = let e : v - v ≡ 0 = omega arith in ap (λ (n : ℕ). sum_of n (λ i. w (v + i))) e

  -- a climb of one level more costs its last step more
  pub climb-more : (from to : ℕ) → from ≤ to → climb w from (suc to) ≡ climb w from to + w to
  unfolding climb
  climb-more from to h =
      let e : suc to - from ≡ suc (to - from) = omega arith in
      let f : from + (to - from) ≡ to = omega arith in
      ap (λ (n : ℕ). sum_of n (λ i. w (from + i))) e
      ∙ sum_of-more (to - from) (λ i. w (from + i))
      ∙ ap (λ (l : ℕ). sum_of (to - from) (λ i. w (from + i)) + w l) f

  -- a climb costs what its number of steps from its level says
  pub climb-same : (from to high : ℕ) → to - from ≡ high - from → climb w from to ≡ climb w from high
  unfolding climb
  climb-same from to high e = ap (λ (n : ℕ). sum_of n (λ i. w (from + i))) e

  -- one step
  pub climb-step : (v : ℕ) → climb w v (suc v) ≡ w v
  climb-step v = let h : v ≤ v = omega arith in omega (arith, climb-more v v h, climb-stay v)

  -- a higher climb costs more, where each step below the top costs something
  pub climb-rises : (top : ℕ) → ((l : ℕ) → l < top → 0 < w l) → (from low high : ℕ) → from ≤ low → low < high → high ≤ top
      → climb w from low < climb w from high
  climb-rises top dear from low zero h k l = absurd (not-suc-le-zero k)
  climb-rises top dear from low (suc high) h k l = go (high - low) refl (climb-rises top dear from low high h)
    where
      go : (n : ℕ) → high - low ≡ n → (low < high → high ≤ top → climb w from low < climb w from high)
          → climb w from low < climb w from (suc high)
      go zero e f = let s : high ≡ low = omega arith in omega (arith, climb-more from high (omega arith), dear high l, ap (climb w from) s)
      go (suc n) e f = omega (arith, climb-more from high (omega arith), f (omega arith) (omega arith))

  -- A CLIMB AND ONE FROM WHERE IT ENDS are a climb
  pub climb-onward : (from middle to : ℕ) → from ≤ middle → middle ≤ to → climb w from to ≡ climb w from middle + climb w middle to
  unfolding climb
  climb-onward from middle to h k =
      let e : to - from ≡ (middle - from) + (to - middle) = omega arith in
      ap (λ (n : ℕ). sum_of n (λ i. w (from + i))) e
      ∙ sum_of-append (middle - from) (to - middle) (λ i. w (from + i))
      ∙ ap (λ (n : ℕ). sum_of (middle - from) (λ i. w (from + i)) + n)
      (sum_of-same (to - middle) _ _ (λ i l. ap w (omega arith)))

  -- no climb costs more than that from level 0 to the top
  pub climb-whole : (top from to : ℕ) → to ≤ top → climb w from to ≤ climb w 0 top
  climb-whole top from to h = go (to - from) refl
    where
      go : (n : ℕ) → to - from ≡ n → climb w from to ≤ climb w 0 top
      go zero e = omega (arith, climb-same from to from (omega arith), climb-stay from)
      go (suc n) e =
          omega (arith, climb-onward 0 from to (omega arith) (omega arith), climb-onward 0 to top (omega arith) h)

  -- PAGES. One that stays costs nothing
  pub cost-stay : (n : ℕ) (page : List ℕ) → cost_of w n page page ≡ 0
  unfolding cost_of
  cost-stay n page = sum_of-zero n _ (λ c h. climb-stay (level page c))

  -- a change that lowers no cell and another are a change, for the cost of both
  pub cost-onward : (n : ℕ) (before middle after : List ℕ) → ((c : ℕ) → c < n → level before c ≤ level middle c)
      → ((c : ℕ) → c < n → level middle c ≤ level after c)
      → cost_of w n before after ≡ cost_of w n before middle + cost_of w n middle after
  unfolding cost_of
  cost-onward n before middle after h k =
      sum_of-same n _ _ (λ c l. climb-onward (level before c) (level middle c) (level after c) (h c l) (k c l)) ∙ sum_of-add n _ _

  -- no change costs more than a climb through all three steps for each cell
  pub cost_most : (n : ℕ) (before after : List ℕ) → cost_of w n before after ≤ n * (w 0 + w 1 + w 2)
  unfolding cost_of climb sum_of
  cost_most n before after =
      let e : climb w 0 3 ≡ w 0 + w 1 + w 2 = omega arith in
      sum_of-le n _ _ (λ c h. rw e at (climb-whole 3 (level before c) (level after c) (level-bound after c)))
