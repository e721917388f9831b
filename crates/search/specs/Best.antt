-- Problems and their best solutions. A problem says which level lists are valid, and at what cost; its best solution is the cheapest, and
-- of the cheapest the one with the lower level at the first place that differs.
--   Problem, Solution      which levels are valid at which cost; some levels and their cost
--   Best A a               a is valid for A, and no worse than any other that is
--   Solves A r             r is the best solution of A, or there is none and nothing is valid
--   Settles A r            the same, strictly: any other valid level list costs more
--   Product, Either, All   problems put together: one after the other, one of two, a list of independent parts
--   FirstClosed            the first part for which nothing is valid
--   LexLower x y           x has the lower level at the first place where x and y differ
use Rattle.std.specs.Prelude.{◌≡◌, Bool, List, [], ◌∷◌, ◌++◌, ℕ, suc, ◌<◌, ◌+◌, ◌⊎◌, get_or, length}
use Rattle.std.proofs.Math.Option.{Option, none, some}

-- the order of the level lists: at the first place where two differ, the lower comes first
pub data LexLe : List ℕ → List ℕ → Type 0 where
  done : {ys : List ℕ} → LexLe [] ys
  lower : {x y : ℕ} {xs ys : List ℕ} → x < y → LexLe (x ∷ xs) (y ∷ ys)
  same : {x y : ℕ} {xs ys : List ℕ} → x ≡ y → LexLe xs ys → LexLe (x ∷ xs) (y ∷ ys)

-- cost c with levels x is no worse than cost d with levels y
pub data NoWorse (c : ℕ) (x : List ℕ) (d : ℕ) (y : List ℕ) : Type 0 where
  cheaper : c < d → NoWorse c x d y
  tied : c ≡ d → LexLe x y → NoWorse c x d y

-- a problem says which level lists are valid, and at what cost
abbrev pub Problem : Type 1
Problem = ℕ → List ℕ → Type 0

-- a solution: the new levels, and what they cost
pub record Solution : Type 0 where
  pub cost : ℕ
  pub levels : List ℕ

-- the best solution: it is valid, and no worse than any that is
pub record Best (A : Problem) (a : Solution) : Type 0 where
  pub valid : A a.cost a.levels
  pub least : (d : ℕ) (y : List ℕ) → A d y → NoWorse a.cost a.levels d y

-- what an optional solution says of a problem: none, that nothing is valid; some, that this is the best
pub data Solves (A : Problem) : Option Solution → Type 0 where
  nothing : ((d : ℕ) (y : List ℕ) → A d y → ⊥) → Solves A none
  just : {a : Solution} → Best A a → Solves A (some a)

-- the same, strictly: every other valid level list costs more
pub data Settles (A : Problem) : Option Solution → Type 0 where
  unsolved : ((d : ℕ) (y : List ℕ) → A d y → ⊥) → Settles A none
  sole : {a : Solution} → A a.cost a.levels → ((d : ℕ) (y : List ℕ) → A d y → (a.cost < d) ⊎ ((a.cost ≡ d) × (a.levels ≡ y)))
      → Settles A (some a)

-- the product of two problems: costs add, levels stand one after the other
pub record Product (A B : Problem) (c : ℕ) (y : List ℕ) : Type 0 where
  pub cost₁ : ℕ
  pub levels₁ : List ℕ
  pub cost₂ : ℕ
  pub levels₂ : List ℕ
  pub valid₁ : A cost₁ levels₁
  pub valid₂ : B cost₂ levels₂
  pub sum : c ≡ cost₁ + cost₂
  pub append : y ≡ levels₁ ++ levels₂

-- every valid level list has k levels
pub record Width (k : ℕ) (A : Problem) : Type 0 where
  pub width : (c : ℕ) (y : List ℕ) → A c y → length y ≡ k

-- the problem with no place: no cost, no levels
pub data Empty : ℕ → List ℕ → Type 0 where
  empty : Empty 0 []

-- either of two problems, by a digit
pub data Either (A : Bool → Problem) (c : ℕ) (y : List ℕ) : Type 0 where
  digit : (u : Bool) → A u c y → Either A c y

-- parts that are independent of each other, one after the other
module _ {I : Type 0} (problem : I → Problem) where
  unfoldable pub All : List I → Problem
  All [] = Empty
  All (i ∷ is) = Product (problem i) (All is)

-- part k is the first for which nothing is valid
module _ {I : Type 0} (problem : I → Problem) where
  pub data FirstClosed : List I → ℕ → Type 0 where
    here : {i : I} {is : List I} → ((d : ℕ) (y : List ℕ) → problem i d y → ⊥) → FirstClosed (i ∷ is) 0
    later : {i : I} {is : List I} {k : ℕ} (d : ℕ) (y : List ℕ) → problem i d y → FirstClosed is k → FirstClosed (i ∷ is) (suc k)

-- x has the lower level at the first place where x and y differ
pub record LexLower (x y : List ℕ) : Type 0 where
  pub place : ℕ
  pub agree : (j : ℕ) → j < place → get_or x j 0 ≡ get_or y j 0
  pub less : get_or x place 0 < get_or y place 0
