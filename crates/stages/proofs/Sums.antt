-- Sums of the numbers that tell optional costs: closed stays closed, and no sum brings it back among the costs.
--   decodes-add   two numbers added up tell the two costs one after the other
--   decodes-cut   a number that is cut off at closed tells the same cost
--   Below         an optional cost that is at most m where there is one; sums and the lesser of such costs
use mathlib.Core.Path.{sym, subst}
use mathlib.Core.Bool.{Bool, true, false, cond}
use mathlib.Core.Option.{Option, none, some}
use Prim.Native.Nat.{ℕ, ◌+◌, ◌≤◌, ◌<◌, min}
use native.Mathlib.Omega.{arith}
use native.Mathlib.Nat.{min-eq_left, le-min, le_refl}
use lib.Dec.{ltb}
use Rattle.search.specs.Plan.{add, lesser}
use Rattle.stages.specs.Costs.{Decodes, open_at, shut}

-- two numbers added up tell the two costs one after the other
pub decodes-add : {c m n a b : ℕ} {o p : Option ℕ} → Decodes c m a o → Decodes c n b p → Decodes c (m + n) (a + b) (add o p)
unfolding add
decodes-add {c} {m} {n} {a} {b} (open_at h) (open_at k) = let e : a + b ≤ m + n = omega arith in open_at {c = a + b} e
decodes-add {c} {m} {n} {a} {b} (open_at h) (shut k) = let e : c ≤ a + b = omega arith in shut {v = a + b} e
decodes-add {c} {m} {n} {a} {b} (shut h) (open_at k) = let e : c ≤ a + b = omega arith in shut {v = a + b} e
decodes-add {c} {m} {n} {a} {b} (shut h) (shut k) = let e : c ≤ a + b = omega arith in shut {v = a + b} e

-- a number that is cut off at closed tells the same cost
pub decodes-cut : {c m v : ℕ} {o : Option ℕ} → Decodes c m v o → m < c → Decodes c m (min v c) o
decodes-cut {c} {m} {v} (open_at h) l =
    let e : v ≤ c = omega arith in
    subst (λ (x : ℕ). Decodes c m x (some v)) (sym (min-eq_left e)) (open_at {c = v} h)
decodes-cut {c} {m} {v} (shut h) l = shut {v = min v c} (le-min h (le_refl c))

-- A BOUND: a cost is at most m, where there is one
pub data Below (m : ℕ) : Option ℕ → Type 0 where
  nothing : Below m none
  at_most : {c : ℕ} → c ≤ m → Below m (some c)

-- what a number tells is bounded so
pub below-decoded : {c m v : ℕ} {o : Option ℕ} → Decodes c m v o → Below m o
below-decoded (open_at h) = at_most h
below-decoded (shut h) = nothing

-- two costs one after the other
pub below-add : {m n : ℕ} {o p : Option ℕ} → Below m o → Below n p → Below (m + n) (add o p)
unfolding add
below-add nothing q = nothing
below-add (at_most h) nothing = nothing
below-add {m} {n} (at_most {c = c} h) (at_most {c = d} k) = let e : c + d ≤ m + n = omega arith in at_most e

-- the lesser of two
pub below-lesser : {m : ℕ} {o p : Option ℕ} → Below m o → Below m p → Below m (lesser o p)
unfolding lesser
below-lesser nothing q = q
below-lesser (at_most h) nothing = at_most h
below-lesser {m} (at_most {c = c} h) (at_most {c = d} k) = at_most (go (ltb d c))
  where
    go : (b : Bool) → cond b d c ≤ m
    go true = k
    go false = h

-- a cost that there is
pub below-some : {m n c : ℕ} → Below m (some c) → m < n → c < n
below-some (at_most h) l = omega arith
