-- The search over digits that finds the best write of a strip, for any choice of a stage's levels.
--   Choice, Chooses       the cheapest levels of a stage for a wanted word, and what makes a choice that
--   labels, wanted        the data divided by G_1, and the word that a branch wants
--   Stage, branch, next   a stage of the trellis, its branches and its next states
--   with_memory m E       the encoder with room for m digits in its states
--   write                 the write of a strip: the best over its stages from state zero
use Rattle.std.specs.Prelude.{◌≡◌, Bool, true, false, List, [], ◌∷◌, ℕ, zero, suc, take, replicate, length, drop}
use Rattle.std.proofs.Math.Option.{Option}
use Rattle.codes.specs.Sequences.{◌+₂◌, Bits}
use Rattle.codes.specs.Registers.{dot, push, quotient}
use Rattle.codes.specs.Encoders.{Encoder}
use Rattle.search.specs.Best.{Problem, Solution, Solves}
use Rattle.search.specs.Trellis.{best}
use Rattle.search.specs.Strip.{Steps, Cell, Meaning, Group}

-- the optional cheapest levels of a stage's cells for a wanted word
abbrev pub Choice : Type 0
Choice = List Cell → List Bool → Option Solution

-- what a choice has to be for the meaning of n code bits
pub record Chooses (S : Steps) (M : Meaning) (n : ℕ) (choose : Choice) : Type 0 where
  pub sized : (y : List ℕ) → length y ≡ M.cells → length (M.means y) ≡ n
  pub solves : (xs : List Cell) (w : List Bool) → length xs ≡ M.cells → length w ≡ n → Solves (Group S M xs w) (choose xs w)

-- THE SEARCH. What the data adds to each of r code bits after the first at stage t: the quotients by G_1
unfoldable pub labels : ℕ → List Bool → ℕ → (ℕ → Bits) → ℕ → List Bool
labels m gs zero d t = []
labels m gs (suc r) d t = quotient m gs (d 0) t ∷ labels m gs r (λ j. d (suc j)) t

-- the code bits after the first by the digits h, the newest first, and the labels xs
unfoldable pub sums : List Bool → List (List Bool) → List Bool → List Bool
sums h [] xs = []
sums h (G ∷ Gs) [] = []
sums h (G ∷ Gs) (x ∷ xs) = (dot G h +₂ x) ∷ sums h Gs xs

-- the code word that the digits h want: G_1's bit with no label, and the others'
unfoldable pub wanted : Encoder → List Bool → List Bool → List Bool
wanted E h xs = dot (true ∷ E.first) h ∷ sums h E.others xs

-- a stage of the search: its labels, and its cells
pub record Stage : Type 0 where
  pub adds : List Bool
  pub cells : List Cell

-- a branch: the choice for the word that the digit u wants after the digits s
unfoldable pub branch : Encoder → Choice → Stage → List Bool → Bool → Option Solution
branch E choose g s u = choose g.cells (wanted E (u ∷ s) g.adds)

-- what a branch is the best of
unfoldable pub admit : Encoder → Steps → Meaning → Stage → List Bool → Bool → Problem
admit E S M g s u = Group S M g.cells (wanted E (u ∷ s) g.adds)

-- the next state: a register of the last digits
unfoldable pub next : Encoder → Stage → List Bool → Bool → List Bool
next E g s u = push E.memory u s

-- n stages of k cells from stage t on
unfoldable pub stages : Encoder → (ℕ → Bits) → ℕ → ℕ → ℕ → List Cell → List Stage
stages E d k t zero old = []
stages E d k t (suc n) old =
    record { adds = labels E.memory E.first (length E.others) d t; cells = take k old } ∷ stages E d k (suc t) n (drop k old)

-- the write of a strip of n stages of k cells
unfoldable pub write : Encoder → (ℕ → Bits) → Choice → ℕ → ℕ → List Cell → Option Solution
write E d choose k n old = best (branch E choose) (next E) (stages E d k 0 n old) (replicate E.memory false)

-- an encoder with another memory: room in its states for m digits
abbrev pub with_memory : ℕ → Encoder → Encoder
with_memory m E = record { memory = m; first = E.first; others = E.others }
