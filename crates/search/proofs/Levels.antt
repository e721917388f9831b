-- By places: a raising is known by each cell's climb, and a code bit by the level of its cell.
--   length-cells, cells_at       the cells of a list are those it was made of
--   raised-rises, rises-raised   a raising is a list of levels to which each cell can rise
--   raised-pays                  its cost is the sum of the climbs
--   words-at                     the word of a stage is what its own levels show
use mathlib.Core.Path.{◌≡◌, refl, sym, ◌∙◌, ap}
use mathlib.Core.Bool.{Bool}
use mathlib.Core.List.{List, [], ◌∷◌, map}
use Prim.Native.Nat.{ℕ, zero, suc, ◌<◌, ◌+◌, ◌*◌}
use native.Mathlib.Omega.{arith}
use native.Mathlib.Nat.{not-suc-le-zero}
use lib.ListN.{length, get_or, take, drop}
use lib.Seq.{drop-drop}
use Rattle.cells.specs.Places.{sum_of}
use Rattle.cells.specs.Climbs.{climb}
use Rattle.cells.proofs.Places.{length-list_of, list_of-at}
use Rattle.search.specs.Strip.{Steps, Cell, cells_of, Rise, Raised, still, rise, groups, Meaning, words}
use Rattle.search.specs.Levels.{cell_at, level_at, pays}
use Rattle.search.proofs.Strip.{length-groups}

-- the cells of a list are those it was made of
pub length-cells : (n : ℕ) (level : ℕ → ℕ) (mark : ℕ → Bool) → length (cells_of n level mark) ≡ n
unfolding cells_of
length-cells n level mark = length-list_of n _

pub cells_at : (n : ℕ) (level : ℕ → ℕ) (mark : ℕ → Bool) (i : ℕ) → i < n
    → cell_at (cells_of n level mark) i ≡ record { level = level i; mark = mark i }
unfolding cells_of cell_at
cells_at n level mark i h = list_of-at n _ i _ h

module _ (S : Steps) where
  -- each cell of a raising rises
  pub raised-rises : {old : List Cell} {c : ℕ} {y : List ℕ} → Raised S old c y → (i : ℕ) → i < length old
      → Rise S (cell_at old i) (level_at y i)
  unfolding cell_at level_at
  raised-rises still i h = absurd (not-suc-le-zero h)
  raised-rises (rise p r e) zero h = p
  raised-rises (rise p r e) (suc i) h = raised-rises r i (omega arith)

  -- and it costs the sum of the climbs
  pub raised-pays : {old : List Cell} {c : ℕ} {y : List ℕ} → Raised S old c y → pays S old y ≡ c
  unfolding pays cell_at level_at sum_of
  raised-pays still = refl
  raised-pays (rise {x = x} {to = to} p r e) = ap (λ (k : ℕ). climb S.weight x.level to + k) (raised-pays r) ∙ sym e

  -- levels to which each cell rises are a raising
  pub rises-raised : (old : List Cell) (y : List ℕ) → length y ≡ length old
      → ((i : ℕ) → i < length old → Rise S (cell_at old i) (level_at y i)) → Raised S old (pays S old y) y
  unfolding pays cell_at level_at sum_of
  rises-raised [] [] e f = still
  rises-raised [] (v ∷ y) e f = let z : suc (length y) ≡ 0 = e in absurd (omega arith)
  rises-raised (x ∷ old) [] e f = let z : ◌≡◌ {A = ℕ} 0 (suc (length old)) = e in absurd (omega arith)
  rises-raised (x ∷ old) (v ∷ y) e f = rise (f 0 (omega arith)) (rises-raised old y (omega arith) (λ i h. f (suc i) (omega arith))) refl

-- group t of k
groups-at : {A : Type 0} (k n : ℕ) (l : List A) (t : ℕ) → t < n → get_or (groups k n l) t [] ≡ take k (drop (t * k) l)
unfolding groups
groups-at k zero l t h = absurd (not-suc-le-zero h)
groups-at k (suc n) l zero h = let e : 0 * k ≡ 0 = omega arith in ap (λ (i : ℕ). take k (drop i l)) (sym e)
groups-at k (suc n) l (suc t) h =
    let e : k + t * k ≡ suc t * k = omega arith in
    groups-at k n (drop k l) t (omega arith) ∙ ap (take k) (drop-drop (t * k) k l) ∙ ap (λ (i : ℕ). take k (drop i l)) e

-- an element of a mapped list, with any default
get_or_map : {A B : Type 0} (f : A → B) (l : List A) (j : ℕ) (d : A) (e : B) → j < length l → get_or (map f l) j e ≡ f (get_or l j d)
get_or_map f [] j d e h = absurd (not-suc-le-zero h)
get_or_map f (x ∷ l) zero d e h = refl
get_or_map f (x ∷ l) (suc j) d e h = get_or_map f l j d e (omega arith)

-- the word of stage t
pub words-at : (M : Meaning) (n : ℕ) (y : List ℕ) (t : ℕ) → t < n
    → get_or (words M n y) t [] ≡ M.means (take M.cells (drop (t * M.cells) y))
unfolding words
words-at M n y t h = get_or_map M.means (groups M.cells n y) t [] [] (omega (arith, length-groups M.cells n y))
    ∙ ap M.means (groups-at M.cells n y t h)
