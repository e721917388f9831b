-- The best of every state at once: a table for each stage, made from the table of the stage after it. It is the recursion `best`, and it
-- computes in the checker where the recursion would take a step for each digit sequence.
--   Tree, grow, look   a value for each list of m bits, made and looked up
--   table              the table of a list of stages
--   write-table        the write of a strip by tables
use Rattle.std.specs.Prelude.{Bool, true, false, List, [], ◌∷◌, ℕ, zero, suc, replicate}
use Rattle.std.proofs.Math.Option.{Option, none, some}
use Rattle.codes.specs.Sequences.{Bits}
use Rattle.codes.specs.Encoders.{Encoder}
use Rattle.search.specs.Best.{Solution}
use Rattle.search.specs.Trellis.{better, joined, free}
use Rattle.search.specs.Strip.{Cell}
use Rattle.search.specs.Search.{Choice, branch, next, stages}

-- a value for each list of m bits
pub data Tree (A : Type 0) : Type 0 where
  leaf : A → Tree A
  node : Tree A → Tree A → Tree A

module _ {A : Type 0} where
  -- the tree of a function of m bits
  unfoldable pub grow : ℕ → (List Bool → A) → Tree A
  grow zero f = leaf (f [])
  grow (suc m) f = node (grow m (λ s. f (false ∷ s))) (grow m (λ s. f (true ∷ s)))

  -- its value at a list of bits, z where the list is too short
  unfoldable pub look : A → Tree A → List Bool → A
  look z (leaf a) s = a
  look z (node l r) [] = z
  look z (node l r) (false ∷ s) = look z l s
  look z (node l r) (true ∷ s) = look z r s

module _ {G : Type 0} (m : ℕ) (branch : G → List Bool → Bool → Option Solution) (next : G → List Bool → Bool → List Bool) where
  -- one stage before a table
  unfoldable pub step : G → Tree (Option Solution) → Tree (Option Solution)
  step g T =
      grow m (λ s. better (joined (branch g s false) (look none T (next g s false)))
      (joined (branch g s true) (look none T (next g s true))))

  -- the table of a list of stages
  unfoldable pub table : List G → Tree (Option Solution)
  table [] = grow m (λ s. some free)
  table (g ∷ gs) = step g (table gs)

-- the write of a strip of n stages of k cells, by tables
unfoldable pub write-table : Encoder → (ℕ → Bits) → Choice → ℕ → ℕ → List Cell → Option Solution
write-table E d choose k n old =
    look none (table E.memory (branch E choose) (next E) (stages E d k 0 n old)) (replicate E.memory false)
