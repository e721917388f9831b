-- Numbers stored one after the other.
--   stored        a list with n numbers stored from place p on, as long as before (length-stored)
--   stored_at     the numbers stored, and every other place as it was (stored_other)
--   stored_more   a loop that stores n numbers a turn
use mathlib.Core.Path.{◌≡◌, refl, ◌∙◌}
use mathlib.Core.Logic.{⊎_elim}
use mathlib.Core.Bool.{Bool, true, false}
use mathlib.Core.List.{List}
use Prim.Native.Nat.{ℕ, zero, suc, ◌+◌, ◌-◌, ◌<◌, ◌≤◌}
use native.Mathlib.Omega.{arith, ne_cases}
use native.Mathlib.Nat.{not-suc-le-zero}
use lib.Dec.{ltb}
use lib.ListN.{length, get_or, set, length-set}
use lib.Seq.{get_or-set_same, get_or-set_other}
use borrow.Author.Tests.{ltb-true, ltb-false}
use Rattle.cells.proofs.Places.{same?}

-- STORES of n numbers, from place p on
unfoldable pub stored : List ℕ → ℕ → (ℕ → ℕ) → ℕ → List ℕ
stored l p f zero = l
stored l p f (suc n) = set (stored l p f n) (p + n) (f n)

module _ (l : List ℕ) (p : ℕ) (f : ℕ → ℕ) where
  -- as long as before
  pub length-stored : (n : ℕ) → length (stored l p f n) ≡ length l
  unfolding stored
  length-stored zero = refl
  length-stored (suc n) = length-set (stored l p f n) (p + n) (f n) ∙ length-stored n

  -- every other place is as it was
  pub stored_other : (n i : ℕ) → ((j : ℕ) → j < n → i ≡ p + j → ⊥) → get_or (stored l p f n) i 0 ≡ get_or l i 0
  unfolding stored
  stored_other zero i h = refl
  stored_other (suc n) i h =
      get_or-set_other (stored l p f n) (p + n) i (f n) 0 (h n (omega arith)) ∙ stored_other n i (λ j k. h j (omega arith))

  -- number j stands at place p + j
  pub stored_at : (n j : ℕ) → p + n ≤ length l → j < n → get_or (stored l p f n) (p + j) 0 ≡ f j
  unfolding stored
  stored_at zero j h k = absurd (not-suc-le-zero k)
  stored_at (suc n) j h k =
      ⊎_elim
      (λ e. rw e (get_or-set_same (stored l p f n) (p + n) (f n) 0 (omega (arith, length-stored n))))
      (λ d.
      get_or-set_other (stored l p f n) (p + n) (p + j) (f n) 0 (λ z. d (omega arith))
      ∙ stored_at n j (omega arith) (ne_cases j n (j < n) d (λ z. z) (λ z. omega arith)))
      (same? j n)

-- STORES, n at a time: a loop that has stored g at the places before p has stored it before p + n
pub stored_more : (l : List ℕ) (p n : ℕ) (f g : ℕ → ℕ) → p + n ≤ length l → ((j : ℕ) → j < n → f j ≡ g (p + j))
    → ((k : ℕ) → k < p → get_or l k 0 ≡ g k) → (k : ℕ) → k < p + n → get_or (stored l p f n) k 0 ≡ g k
stored_more l p n f g h e before k i =
    go (ltb k p) refl
  where
    go : (b : Bool) → ltb k p ≡ b → get_or (stored l p f n) k 0 ≡ g k
    go true t =
        let m : k < p = ltb-true k p t in
        stored_other l p f n k (λ j z y. omega arith) ∙ before k m
    go false t =
        let m : p ≤ k = ltb-false k p t in
        let z : p + (k - p) ≡ k = omega arith in
        let q : k - p < n = omega arith in
        rw (← z) (stored_at l p f n (k - p) h q ∙ e (k - p) q)
