-- The best solution computed: the better of two, two one after the other, and over a trellis of states and digits. Closed is `none`, a case
-- of its own, and no number.
--   better r s              the better of two solutions
--   joined r s              two solutions one after the other, closed as soon as one is
--   best branch next gs s   the best over the stages gs from the state s
--   Valid admit next gs s   what is valid over these stages: some digits admit it
--   all solution is         the parts' solutions, one after the other; first-none: the first part that has none
use Rattle.std.specs.Prelude.{Bool, true, false, ◌&&◌, cond, ◌||◌, List, [], ◌∷◌, ◌++◌, ℕ, suc, ◌+◌, ltb, eqb}
use Rattle.std.proofs.Math.Option.{Option, none, some}
use Rattle.search.specs.Best.{Problem, Solution, Product, Empty, Either}

-- x comes before y, or is y and r holds
unfoldable pub before : ℕ → ℕ → Bool → Bool
before x y r = ltb x y || eqb x y && r

-- the first list is lower where the two first differ, or is a proper front of the second
unfoldable pub lexltb : List ℕ → List ℕ → Bool
lexltb xs [] = false
lexltb [] (y ∷ ys) = true
lexltb (x ∷ xs) (y ∷ ys) = before x y (lexltb xs ys)

-- cheaper, or as dear and lower
unfoldable pub beats : Solution → Solution → Bool
beats a b = before a.cost b.cost (lexltb a.levels b.levels)

-- the better of two
unfoldable pub better : Option Solution → Option Solution → Option Solution
better none r = r
better (some a) none = some a
better (some a) (some b) = some (cond (beats b a) b a)

-- one after the other: none as soon as one is none
unfoldable pub joined : Option Solution → Option Solution → Option Solution
joined none r = none
joined (some a) none = none
joined (some a) (some b) = some (record { cost = a.cost + b.cost; levels = a.levels ++ b.levels })

-- no cost, no levels
abbrev pub free : Solution
free = record { cost = 0; levels = [] }

-- a trellis: at each stage g, a state and a digit lead to a next state by a branch, closed or with its solution
module _ {G S : Type 0} (branch : G → S → Bool → Option Solution) (next : G → S → Bool → S) where
  unfoldable pub best : List G → S → Option Solution
  best [] s = some free
  best (g ∷ gs) s =
      better (joined (branch g s false) (best gs (next g s false))) (joined (branch g s true) (best gs (next g s true)))

-- a level list is valid from the state s if some digits admit it, a stage after the other
module _ {G S : Type 0} (admit : G → S → Bool → Problem) (next : G → S → Bool → S) where
  unfoldable pub Valid : List G → S → Problem
  Valid [] s = Empty
  Valid (g ∷ gs) s = Either (λ u. Product (admit g s u) (Valid gs (next g s u)))

-- parts that are independent of each other, one after the other
module _ {I : Type 0} (solution : I → Option Solution) where
  unfoldable pub all : List I → Option Solution
  all [] = some free
  all (i ∷ is) = joined (solution i) (all is)

-- the number of the first part that has no solution: as many as there are parts, where each has one
module _ {I : Type 0} (solution : I → Option Solution) where
  unfoldable pub first-none : List I → ℕ
  first-none [] = 0
  first-none (i ∷ is) = elim (solution i) [ none ↦ 0 | some a ↦ suc (first-none is) ]
