-- The best levels of a stage's cells for a wanted word, for any meaning of levels: every level of every cell is tried.
--   least n f       the best of f 0 .. f (n − 1)
--   to_level        one cell raised to a level, where it may be
--   tried           the best of all levels of the cells that pass a test
--   same_word       whether two words are the same
--   choice_of S M   the choice: the best levels that mean the wanted word
use Rattle.std.specs.Prelude.{Bool, true, false, cond, not, ◌&&◌, ◌||◌, List, [], ◌∷◌, ℕ, zero, suc, leb, eqb}
use Rattle.std.specs.Bool.{beq}
use Rattle.std.proofs.Math.Option.{Option, none, some}
use Rattle.cells.specs.Climbs.{climb}
use Rattle.search.specs.Best.{Solution}
use Rattle.search.specs.Trellis.{better, joined, free}
use Rattle.search.specs.Strip.{Steps, Cell, Meaning}
use Rattle.search.specs.Search.{Choice}

-- the best of n
unfoldable pub least : ℕ → (ℕ → Option Solution) → Option Solution
least zero f = none
least (suc n) f = better (least n f) (f n)

-- a cell raised to a level: not lower, and the same where it is marked
unfoldable pub to_level : Steps → Cell → ℕ → Option Solution
to_level S x to =
    cond (leb x.level to && (not x.mark || eqb to x.level))
    (some (record { cost = climb S.weight x.level to; levels = to ∷ [] })) none

-- every level of every cell
unfoldable pub tried : Steps → (List ℕ → Bool) → List Cell → Option Solution
tried S ok [] = cond (ok []) (some free) none
tried S ok (x ∷ xs) = least (suc S.top) (λ to. joined (to_level S x to) (tried S (λ y. ok (to ∷ y)) xs))

-- whether two words are the same
unfoldable pub same_word : List Bool → List Bool → Bool
same_word [] [] = true
same_word [] (b ∷ w) = false
same_word (a ∷ v) [] = false
same_word (a ∷ v) (b ∷ w) = beq a b && same_word v w

-- the best levels that mean the wanted word
unfoldable pub choice_of : Steps → Meaning → Choice
choice_of S M xs w = tried S (λ y. same_word (M.means y) w) xs
