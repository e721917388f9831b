-- WHAT A WRITE OF A STRIP IS, for any weights, marks, meaning of levels and encoder: cells are raised to levels whose code words read as
-- the data. No state and no search.
--   Steps, Dear      the weight of each step, and the highest level; no step below it is free
--   steps_of         levels 0 to 3 with three weights
--   Cell, cells_of   a cell before the write: its level, and whether it must stay
--   Rise, Raised     what a cell may become; cells raised to given levels, at a cost
--   Meaning, words   the code word that a stage's levels mean; the words of n stages
--   Rewrite          a write: the cells raised to levels that read as the data
--   Group            the same of one stage and its wanted word
use Rattle.std.specs.Prelude.{◌≡◌, Bool, true, List, [], ◌∷◌, map, ℕ, zero, suc, ◌<◌, ◌+◌, ◌≤◌, take, length, drop}
use Rattle.cells.specs.Places.{list_of}
use Rattle.cells.specs.Climbs.{climb, weight_of}
use Rattle.codes.specs.Sequences.{Bits}
use Rattle.codes.specs.Encoders.{Encoder}
use Rattle.codes.specs.Coset.{Reads}

-- the cost of the step from each level to the next, and the highest level
pub record Steps : Type 0 where
  pub weight : ℕ → ℕ
  pub top : ℕ

-- no step below the top is free
pub record Dear (S : Steps) : Type 0 where
  pub dear : (l : ℕ) → l < S.top → 0 < S.weight l

-- levels 0 to 3 with three weights
abbrev pub steps_of : List ℕ → Steps
steps_of weights = record { weight = weight_of weights; top = 3 }

-- a cell before the write: its level, and whether it is marked, so that it stays
pub record Cell : Type 0 where
  pub level : ℕ
  pub mark : Bool

-- n cells by their levels and marks
unfoldable pub cells_of : ℕ → (ℕ → ℕ) → (ℕ → Bool) → List Cell
cells_of n level mark = list_of n (λ c. record { level = level c; mark = mark c })

-- what a cell may become: not lower, not above the top, and the same where it is marked
pub record Rise (S : Steps) (x : Cell) (to : ℕ) : Type 0 where
  pub up : x.level ≤ to
  pub high : to ≤ S.top
  pub marked_stays : x.mark ≡ true → to ≡ x.level

-- the cells become these levels, at the sum of their climbs
pub data Raised (S : Steps) : List Cell → ℕ → List ℕ → Type 0 where
  still : Raised S [] 0 []
  rise : {x : Cell} {to c k : ℕ} {old : List Cell} {new : List ℕ} → Rise S x to → Raised S old k new
      → c ≡ climb S.weight x.level to + k → Raised S (x ∷ old) c (to ∷ new)

-- n groups of k, one after the other: the cells of n stages
unfoldable pub groups : {A : Type 0} → ℕ → ℕ → List A → List (List A)
groups k zero l = []
groups k (suc n) l = take k l ∷ groups k n (drop k l)

-- a list is just n groups of k
pub data Full {A : Type 0} (k : ℕ) : ℕ → List A → Type 0 where
  done : Full k 0 []
  more : {n : ℕ} {l : List A} → length (take k l) ≡ k → Full k n (drop k l) → Full k (suc n) l

-- what levels mean: how many cells a stage has, and the code word of their levels
pub record Meaning : Type 0 where
  pub cells : ℕ
  pub means : List ℕ → List Bool

-- the code words of n stages
unfoldable pub words : Meaning → ℕ → List ℕ → List (List Bool)
words M n y = map M.means (groups M.cells n y)

-- A WRITE: the cells are raised to the levels y at the cost c, and y reads as the data d over n stages
pub record Rewrite (S : Steps) (M : Meaning) (E : Encoder) (d : ℕ → Bits) (n : ℕ) (old : List Cell) (c : ℕ) (y : List ℕ) : Type 0 where
  pub raised : Raised S old c y
  pub reads : Reads E d n (words M n y)

-- one stage: its cells are raised to levels that mean the word w
pub record Group (S : Steps) (M : Meaning) (xs : List Cell) (w : List Bool) (c : ℕ) (y : List ℕ) : Type 0 where
  pub raised : Raised S xs c y
  pub word : M.means y ≡ w
