-- The best path from prices alone: what a program keeps is a cost for each state, and a digit for each stage and state.
--   add                     two optional costs one after the other, closed as soon as one is
--   lesser, turn            the lesser of two costs, and the digit that goes with it
--   costs price next gs s   the least cost over the stages gs from the state s, by the price of each branch
--   digit_at                the digit at a stage, by the costs from the stage after it; a tie goes by the stage's own rule
--   plan                    the digits of the best path
--   play                    the solution of given digits
--   Decides t xs ys         which of two level lists has the lower first level
use Rattle.std.specs.Prelude.{Bool, true, false, cond, List, [], ◌∷◌, ℕ, ◌+◌, ◌<◌, ltb}
use Rattle.std.proofs.Math.Option.{Option, none, some}
use Rattle.search.specs.Best.{Solution}
use Rattle.search.specs.Trellis.{before, joined, free}

-- the cost alone
unfoldable pub solution_cost : Option Solution → Option ℕ
solution_cost none = none
solution_cost (some a) = some a.cost

-- two costs one after the other
unfoldable pub add : Option ℕ → Option ℕ → Option ℕ
add none d = none
add (some c) none = none
add (some c) (some d) = some (c + d)

-- the lesser of two costs
unfoldable pub lesser : Option ℕ → Option ℕ → Option ℕ
lesser none d = d
lesser (some c) none = some c
lesser (some c) (some d) = some (cond (ltb d c) d c)

-- the digit: 1 where its cost is lower, or is the same and the tie is its own
unfoldable pub turn : Option ℕ → Option ℕ → Bool → Bool
turn none none t = false
turn none (some d) t = true
turn (some c) none t = false
turn (some c) (some d) t = before d c t

module _ {G S : Type 0} (price : G → S → Bool → Option ℕ) (next : G → S → Bool → S) where
  -- what the state s costs by the digit u, where `after` is what the states after it cost
  unfoldable pub way : G → (S → Option ℕ) → S → Bool → Option ℕ
  way g after s u = add (price g s u) (after (next g s u))

  -- the least cost over the stages
  unfoldable pub costs : List G → S → Option ℕ
  costs [] s = some 0
  costs (g ∷ gs) s = lesser (way g (costs gs) s false) (way g (costs gs) s true)

module _ {G S : Type 0} (price : G → S → Bool → Option ℕ) (tie : G → S → Bool) (next : G → S → Bool → S) where
  -- the digit at a stage, by the costs from the stage after it; `tie` says whether the digit 1 wins a tie
  unfoldable pub digit_at : G → (S → Option ℕ) → S → Bool
  digit_at g after s = turn (way price next g after s false) (way price next g after s true) (tie g s)

  -- the digits of the whole path
  unfoldable pub plan : List G → S → List Bool
  plan [] s = []
  plan (g ∷ gs) s = digit_at g (costs price next gs) s ∷ plan gs (next g s (digit_at g (costs price next gs) s))

-- the solution of a digit sequence: none where a branch is closed
module _ {G S : Type 0} (branch : G → S → Bool → Option Solution) (next : G → S → Bool → S) where
  unfoldable pub play : List G → S → List Bool → Option Solution
  play [] s us = some free
  play (g ∷ gs) s [] = none
  play (g ∷ gs) s (u ∷ us) = joined (branch g s u) (play gs (next g s u) us)

-- which of two level lists has the lower first level: the second where the bit is true, the first where it is false
pub data Decides : Bool → List ℕ → List ℕ → Type 0 where
  second_lower : {x y : ℕ} {xs ys : List ℕ} → y < x → Decides true (x ∷ xs) (y ∷ ys)
  first_lower : {x y : ℕ} {xs ys : List ℕ} → x < y → Decides false (x ∷ xs) (y ∷ ys)
