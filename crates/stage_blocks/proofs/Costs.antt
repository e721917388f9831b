-- Sums and minima of the numbers that tell optional costs and trails: closed stays closed, no sum brings it back among the costs, and a tie
-- goes where the trail's bit says.
--   decoded-way       a price added: the cost of the branch, and its bit in front of the trail
--   decoded-least     the lesser of two branches, and the trail of the one that the digit takes
--   decoded-settled   the low byte cleared
--   decoded-low       the low byte is the trail
--   decoded-cost      a number without a trail tells the cost
use mathlib.Core.Path.{◌≡◌, refl, sym, subst, ◌∙◌, ap}
use mathlib.Core.Bool.{Bool, true, false, cond, ◌&&◌, ◌||◌}
use mathlib.Core.Option.{Option, none, some}
use Prim.Native.Nat.{ℕ, suc, ◌+◌, ◌*◌, ◌/◌, ◌%◌, ◌^◌, ◌≤◌, ◌<◌, min}
use native.Mathlib.Omega.{arith}
use native.Mathlib.Nat.{min-eq_left, min-eq_right, le-min, mul-le-mul, le_refl, pow-suc, mul-add, mul-suc}
use lib.Dec.{ltb, eqb}
use borrow.Author.Tests.{ltb-true, ltb-false, eqb-true, eqb-false}
use Rattle.search.specs.Trellis.{before}
use Rattle.search.specs.Plan.{add, lesser, turn}
use Rattle.stages.specs.Stage.{closed, ceiling}
use Rattle.stage_blocks.specs.Blocks.{settled_of}
use Rattle.stages.specs.Costs.{Decodes, open_at, shut, Trailed, open_with, shut_from}

-- a bit in front of a trail of k stages makes one of k + 1
longer : (k e t : ℕ) → e ≤ 1 → t < 2 ^ k → e * 2 ^ k + t < 2 ^ suc k
longer k e t l h =
    let p : e * 2 ^ k ≤ 1 * 2 ^ k = mul-le-mul l (le_refl (2 ^ k)) in
    omega (arith, pow-suc 2 k)

module _ (unit shut_at : ℕ) where
  -- more than closed, in units
  above : (p : ℕ) → shut_at ≤ p → unit * shut_at ≤ unit * p
  above p h = mul-le-mul (le_refl unit) h

  -- A BRANCH: its price and its bit are added
  pub decoded-way : {b m k p a e t : ℕ} {o c : Option ℕ} → e ≤ 1 → Decodes shut_at b p o → Trailed unit shut_at m k a c t
      → Trailed unit shut_at (b + m) (suc k) (a + (unit * p + e * 2 ^ k)) (add o c) (e * 2 ^ k + t)
  unfolding add
  decoded-way {b} {m} {k} {p} {a} {e} {t} l (open_at h) (open_with {c = c} f g s) =
      let d : unit * (p + c) ≡ unit * p + unit * c = mul-add unit p c in
      let x : a + (unit * p + e * 2 ^ k) ≡ unit * (p + c) + (e * 2 ^ k + t) = omega arith in
      let y : p + c ≤ b + m = omega arith in
      open_with {v = a + (unit * p + e * 2 ^ k)} {c = p + c} {t = e * 2 ^ k + t} x y (longer k e t l s)
  decoded-way {b} {m} {k} {p} {a} {e} {t} l (open_at h) (shut_from g) =
      let x : unit * shut_at ≤ a + (unit * p + e * 2 ^ k) = omega arith in shut_from {v = a + (unit * p + e * 2 ^ k)} {t = e * 2 ^ k + t} x
  decoded-way {b} {m} {k} {p} {a} {e} {t} l (shut h) (open_with {c = c} f g s) =
      let x : unit * shut_at ≤ a + (unit * p + e * 2 ^ k) = omega (arith, above p h) in
      shut_from {v = a + (unit * p + e * 2 ^ k)} {t = e * 2 ^ k + t} x
  decoded-way {b} {m} {k} {p} {a} {e} {t} l (shut h) (shut_from g) =
      let x : unit * shut_at ≤ a + (unit * p + e * 2 ^ k) = omega arith in shut_from {v = a + (unit * p + e * 2 ^ k)} {t = e * 2 ^ k + t} x

  -- a cost and a trail below the unit are less than a greater cost
  less : (c d t : ℕ) → c < d → t < unit → unit * c + t < unit * d
  less c d t h s =
      let p : unit * suc c ≤ unit * d = mul-le-mul (le_refl unit) h in
      omega (arith, mul-suc unit c)

  -- THE LESSER of two branches. A tie goes to the one with the lower trail, which is the one that the tie rule names
  module _ {m k x y t u : ℕ} (tie : Bool) (room : m < shut_at) (fits : 2 ^ k ≤ unit) (one : tie ≡ true → u < t)
      (none-wins : tie ≡ false → t < u) where
    -- of two that cost the same
    by_tie : (c : ℕ) → x ≡ unit * c + t → y ≡ unit * c + u → c ≤ m → t < 2 ^ k → u < 2 ^ k → (b : Bool) → tie ≡ b
        → Trailed unit shut_at m k (min x y) (some c) (cond b u t)
    by_tie c e f h s r true z = let l : y ≤ x = omega (arith, one z) in open_with (min-eq_right l ∙ f) h r
    by_tie c e f h s r false z = let l : x ≤ y = omega (arith, none-wins z) in open_with (min-eq_left l ∙ e) h s

    pub decoded-least : {o p : Option ℕ} → Trailed unit shut_at m k x o t → Trailed unit shut_at m k y p u
        → Trailed unit shut_at m k (min x y) (lesser o p) (cond (turn o p tie) u t)
    unfolding lesser turn before
    decoded-least (open_with {c = c} e h s) (open_with {c = d} f g r) = go (ltb d c) (eqb d c) refl refl
      where
        go : (a b : Bool) → ltb d c ≡ a → eqb d c ≡ b
            → Trailed unit shut_at m k (min x y) (some (cond a d c)) (cond (a || b && tie) u t)
        go true b q z =
            let n : u < unit = omega arith in
            let l : y ≤ x = omega (arith, less d c u (ltb-true d c q) n) in
            open_with (min-eq_right l ∙ f) g r
        go false true q z = by_tie c e (f ∙ ap (λ (n : ℕ). unit * n + u) (eqb-true d c z)) h s r tie refl
        go false false q z =
            let n : c < d = omega (arith, ltb-false d c q, eqb-false d c z) in
            let i : t < unit = omega arith in
            let l : x ≤ y = omega (arith, less c d t n i) in
            open_with (min-eq_left l ∙ e) h s
    decoded-least (open_with {c = c} e h s) (shut_from g) =
        let n : c < shut_at = omega arith in
        let i : t < unit = omega arith in
        let l : x ≤ y = omega (arith, less c shut_at t n i) in
        open_with (min-eq_left l ∙ e) h s
    decoded-least (shut_from h) (open_with {c = d} f g r) =
        let n : d < shut_at = omega arith in
        let i : u < unit = omega arith in
        let l : y ≤ x = omega (arith, less d shut_at u n i) in
        open_with (min-eq_right l ∙ f) g r
    decoded-least (shut_from h) (shut_from g) = shut_from {v = min x y} (le-min h g)

-- SETTLED: the low byte of a number is cleared, and the cost is told as before
pub decoded-settled : {m k v t : ℕ} {o : Option ℕ} → m < closed → 2 ^ k ≤ 256 → Trailed 256 closed m k v o t
    → Trailed 256 closed m 0 (settled_of v) o 0
unfolding settled_of
decoded-settled {v = v} l f (open_with {c = c} {t = t} e h s) =
    let d : v / 256 * 256 ≡ 256 * c = omega arith in
    let z : 256 * c ≤ ceiling = omega arith in
    let y : 256 * c ≡ 256 * c + 0 = omega arith in
    let w : 0 < 2 ^ 0 = omega arith in
    open_with (ap (λ (n : ℕ). min n ceiling) d ∙ min-eq_left z ∙ y) h w
decoded-settled {v = v} l f (shut_from h) =
    let z : ceiling ≤ v / 256 * 256 = omega arith in
    let y : 256 * closed ≤ min (v / 256 * 256) ceiling = omega (arith, min-eq_right z) in
    shut_from y

-- the low byte of a number that tells a cost is its trail
pub decoded-low : {m v t : ℕ} {o : Option ℕ} → Trailed 256 closed m 8 v o t → (o ≡ none → ⊥) → v % 256 ≡ t
decoded-low (open_with e h s) some-cost = omega arith
decoded-low (shut_from h) some-cost = absurd (some-cost refl)

-- a number without a trail is the cost in 256ths
pub decoded-cost : {m v t : ℕ} {o : Option ℕ} → Trailed 256 closed m 0 v o t → Decodes closed m (v / 256) o
decoded-cost {m} {v} (open_with {c = c} e h s) =
    let z : v / 256 ≡ c = omega arith in subst (λ (n : ℕ). Decodes closed m n (some c)) (sym z) (open_at h)
decoded-cost {m} {v} (shut_from h) = let z : closed ≤ v / 256 = omega arith in shut z
