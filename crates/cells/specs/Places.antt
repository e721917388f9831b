-- Lists, sums and numbers, made place by place.
--   list_of n f   the list f 0, f 1, .. f (n - 1)
--   sum_of n f    their sum
--   from_bits n f the number whose bit i is f i
--   Each P l    every element of a list has the property P
--   same_list   whether two lists are the same
--   Untouched   a buffer whose places from the n-th on are as they were
--   Free        a buffer of which nothing but the length is said
use Rattle.std.specs.Prelude.{◌≡◌, Bool, true, false, ◌&&◌, List, [], ◌∷◌, ℕ, zero, suc, ◌+◌, ◌*◌, ◌≤◌, eqb, length, get_or}

-- f 0, f 1, .. f (n - 1)
unfoldable pub list_of : {A : Type 0} → ℕ → (ℕ → A) → List A
list_of zero f = []
list_of (suc n) f = f 0 ∷ list_of n (λ i. f (suc i))

-- f 0 + f 1 + .. + f (n - 1)
unfoldable pub sum_of : ℕ → (ℕ → ℕ) → ℕ
sum_of zero f = 0
sum_of (suc n) f = f 0 + sum_of n (λ i. f (suc i))

-- f 0 · 1 + f 1 · 2 + .. + f (n - 1) · 2 ^ (n - 1): the number of these n bits, 'bit 0 being worth 1'
unfoldable pub from_bits : ℕ → (ℕ → ℕ) → ℕ
from_bits zero f = 0
from_bits (suc n) f = f 0 + 2 * from_bits n (λ i. f (suc i))

-- every element of a list has the property P
pub data Each {G : Type 0} (P : G → Type 0) : List G → Type 0 where
  no_more : Each P []
  and_each : {g : G} {gs : List G} → P g → Each P gs → Each P (g ∷ gs)

-- whether two lists are the same, place by place
unfoldable pub same_list : List ℕ → List ℕ → Bool
same_list [] [] = true
same_list [] (y ∷ b) = false
same_list (x ∷ a) [] = false
same_list (x ∷ a) (y ∷ b) = eqb x y && same_list a b

-- from place n on a buffer is as it was
pub record Untouched (n : ℕ) (before after : List ℕ) : Type 0 where
  pub others : (k : ℕ) → n ≤ k → get_or after k 0 ≡ get_or before k 0

-- a buffer that is lent as working storage: what it holds afterwards is free
pub record Free (before after : List ℕ) : Type 0 where
  pub size : length after ≡ length before
