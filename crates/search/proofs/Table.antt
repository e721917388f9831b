-- The table has the best of every state, so the write of a strip by tables is the write of the strip.
--   write-by-table   the write by tables is the write of the search
use mathlib.Core.Path.{◌≡◌, refl, ◌∙◌, ap₂}
use mathlib.Core.Bool.{Bool, true, false}
use mathlib.Core.List.{List, [], ◌∷◌}
use mathlib.Core.Option.{Option, none, some}
use Prim.Native.Nat.{ℕ, zero, suc}
use native.Mathlib.Omega.{arith}
use lib.ListN.{length, replicate, length-replicate, length-take}
use Rattle.codes.specs.Sequences.{Bits}
use Rattle.codes.specs.Registers.{push}
use Rattle.codes.specs.Encoders.{Encoder}
use Rattle.search.specs.Best.{Solution}
use Rattle.search.specs.Trellis.{better, joined, free, best}
use Rattle.search.specs.Strip.{Cell}
use Rattle.search.specs.Search.{Stage, Choice, branch, next, stages, write}
use Rattle.search.specs.Table.{grow, look, step, table, write-table}

-- looking up what was grown
look-grow : {A : Type 0} (z : A) (m : ℕ) (f : List Bool → A) (s : List Bool) → length s ≡ m → look z (grow m f) s ≡ f s
unfolding look grow
look-grow z zero f [] l = refl
look-grow z zero f (b ∷ s) l = absurd (omega arith)
look-grow z (suc m) f [] l = absurd (omega arith)
look-grow z (suc m) f (false ∷ s) l = look-grow z m (λ s. f (false ∷ s)) s (omega arith)
look-grow z (suc m) f (true ∷ s) l = look-grow z m (λ s. f (true ∷ s)) s (omega arith)

-- the table of a trellis whose states stay m bits long
module _ {G : Type 0} (m : ℕ) (branch : G → List Bool → Bool → Option Solution) (next : G → List Bool → Bool → List Bool)
    (stays : (g : G) (s : List Bool) (u : Bool) → length s ≡ m → length (next g s u) ≡ m) where
  table-best : (gs : List G) (s : List Bool) → length s ≡ m → look none (table m branch next gs) s ≡ best branch next gs s
  unfolding table step best
  table-best [] s l = look-grow none m (λ s. some free) s l
  table-best (g ∷ gs) s l =
      look-grow none m _ s l
      ∙ ap₂ (λ (x y : Option Solution). better (joined (branch g s false) x) (joined (branch g s true) y))
      (table-best gs (next g s false) (stays g s false l)) (table-best gs (next g s true) (stays g s true l))

-- the write of a strip
pub write-by-table : (E : Encoder) (d : ℕ → Bits) (choose : Choice) (k n : ℕ) (old : List Cell)
    → write-table E d choose k n old ≡ write E d choose k n old
unfolding write-table write next push
write-by-table E d choose k n old =
    table-best E.memory (branch E choose) (next E) stays (stages E d k 0 n old) (replicate E.memory false)
    (length-replicate E.memory false)
  where
    stays : (g : Stage) (s : List Bool) (u : Bool) → length s ≡ E.memory → length (next E g s u) ≡ E.memory
    stays g s u l = omega (arith, length-take E.memory (u ∷ s))
