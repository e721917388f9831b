-- Places in parts: d places a part, S parts one after another.
--   within                               part j ends within S parts
--   place-div, place-mod, place_inside   the part and the place of place t of part j
--   part-number, part-place              the part of a place, and the place within it
use mathlib.Core.Path.{◌≡◌, ◌∙◌, ap}
use Prim.Native.Nat.{ℕ, zero, suc, ◌<◌, ◌≤◌, ◌+◌, ◌*◌, ◌/◌, ◌%◌}
use native.Mathlib.Omega.{arith}
use native.Mathlib.Nat.{mul-le-mul_left, mul-add-div, mul-add-mod_self_left, div-eq_of_lt, mod-eq_of_lt, mod-lt, div-lt_iff_lt-mul}

-- part j of S parts of d places lies within d·S places
pub within : (d j S : ℕ) → j < S → d * j + d ≤ d * S
within d j S h = let m : d * suc j ≤ d * S = mul-le-mul_left d h in let e : d * suc j ≡ d * j + d = omega arith in omega arith

-- place t of part j of parts of d places
module _ (d j t : ℕ) (h : t < d) where
  -- lies in part j
  pub place-div : (d * j + t) / d ≡ j
  place-div = mul-add-div (let p : 0 < d = omega arith in p) j t ∙ ap (λ (q : ℕ). j + q) (div-eq_of_lt h) ∙ omega arith

  -- at place t
  pub place-mod : (d * j + t) % d ≡ t
  place-mod = mul-add-mod_self_left d j t ∙ mod-eq_of_lt h

  -- and within S parts
  pub place_inside : (S : ℕ) → j < S → d * j + t < d * S
  place_inside S k = omega (arith, within d j S k)

-- n is a place of one of S parts of d places
module _ (d S n : ℕ) (h : n < d * S) where
  part-some : 0 < d
  part-some = go d h
    where
      go : (d : ℕ) → n < d * S → 0 < d
      go zero h = absurd (let z : ⊥ = omega arith in z)
      go (suc d) h = omega arith

  -- of this part
  pub part-number : n / d < S
  part-number = (div-lt_iff_lt-mul part-some).1 (let e : d * S ≡ S * d = omega arith in omega arith)

  -- at this place
  pub part-place : n % d < d
  part-place = mod-lt n part-some
