-- To try every level of every cell finds the best levels of a stage, for any meaning of levels.
--   least-solves     the best of several solves any of them
--   tried-solves     the best of all levels that pass a test
--   choice-chooses   so the choice is one for the search
use mathlib.Core.Path.{◌≡◌, refl, sym, ◌∙◌, ap}
use mathlib.Core.Bool.{Bool, true, false, cond, not, ◌&&◌, ◌||◌, false≢true}
use mathlib.Core.List.{List, [], ◌∷◌, ◌++◌}
use mathlib.Core.Option.{Option, none, some}
use mathlib.Core.Logic.{inr, ◌↔◌}
use Prim.Native.Nat.{ℕ, zero, suc, ◌<◌, ◌≤◌, ◌+◌}
use native.Mathlib.Omega.{arith}
use native.Mathlib.Nat.{not-suc-le-zero}
use lib.Dec.{leb, eqb}
use lib.ListN.{length}
use borrow.Author.Tests.{leb-true, le-leb, eqb-true, eqb-false, eq-eqb}
use Rattle.cells.specs.Climbs.{climb}
use Rattle.search.specs.Best.{Problem, Solution, Solves, nothing, just, Product, Either, digit, NoWorse}
use Rattle.search.specs.Trellis.{free}
use Rattle.search.specs.Strip.{Steps, Cell, Rise, Raised, still, rise, Meaning, Group}
use Rattle.search.specs.Search.{Chooses}
use Rattle.search.specs.Choices.{least, to_level, tried, same_word, choice_of}
use Rattle.search.proofs.Best.{solves-either, solves-product, solves-iff, best-strict, no-worse-refl}

-- ANY OF SEVERAL: one of the problems A 0 .. A (n − 1)
record AnyOf (n : ℕ) (A : ℕ → Problem) (c : ℕ) (y : List ℕ) : Type 0 where
  which : ℕ
  among : which < n
  valid : A which c y

-- one more
module _ (n : ℕ) (A : ℕ → Problem) where
  either : Bool → Problem
  either true = A n
  either false = AnyOf n A

  either-any : (c : ℕ) (y : List ℕ) → Either either c y ↔ AnyOf (suc n) A c y
  unfolding either
  either-any c y = (to, λ w. from w (eqb w.which n) refl)
    where
      to : Either either c y → AnyOf (suc n) A c y
      to (digit true w) = record { which = n; among = omega arith; valid = w }
      to (digit false w) = record { which = w.which; among = omega (arith, w.among); valid = w.valid }

      few : (w : AnyOf (suc n) A c y) → (w.which ≡ n → ⊥) → w.which < n
      few w h = let k : w.which < suc n = w.among in omega arith

      from : (w : AnyOf (suc n) A c y) (b : Bool) → eqb w.which n ≡ b → Either either c y
      from w true e = digit true (rw (eqb-true w.which n e) at w.valid)
      from w false e = digit false (record { which = w.which; among = few w (eqb-false w.which n e); valid = w.valid })

-- the best of several
least-solves : (n : ℕ) (A : ℕ → Problem) (f : ℕ → Option Solution) → ((i : ℕ) → Solves (A i) (f i)) → Solves (AnyOf n A) (least n f)
unfolding least either
least-solves zero A f s = nothing (λ d y w. not-suc-le-zero w.among)
least-solves (suc n) A f s = solves-iff (either-any n A) (solves-either (either n A) (least-solves n A f s) (s n))

-- ONE CELL at a level
record At (S : Steps) (x : Cell) (to : ℕ) (c : ℕ) (y : List ℕ) : Type 0 where
  one : y ≡ to ∷ []
  up : x.level ≤ to
  marked_stays : x.mark ≡ true → to ≡ x.level
  cost : c ≡ climb S.weight x.level to

-- the solution of one cell
at-solves : (S : Steps) (x : Cell) (to : ℕ) → Solves (At S x to) (to_level S x to)
unfolding to_level
at-solves S x to = go (leb x.level to) x.mark (eqb to x.level) refl refl refl
  where
    here : x.level ≤ to → (x.mark ≡ true → to ≡ x.level)
        → Solves (At S x to) (some (record { cost = climb S.weight x.level to; levels = to ∷ [] }))
    here h k =
        just (best-strict (record { cost = climb S.weight x.level to; levels = to ∷ [] })
        (record { one = refl; up = h; marked_stays = k; cost = refl })
        (λ d y w. inr (sym w.cost, sym w.one)))

    go : (p m q : Bool) → leb x.level to ≡ p → x.mark ≡ m → eqb to x.level ≡ q
        → Solves (At S x to) (cond (p && (not m || q)) (some (record { cost = climb S.weight x.level to; levels = to ∷ [] })) none)
    go false m q e f g = nothing (λ d y w. false≢true (sym e ∙ le-leb _ _ w.up))
    go true false q e f g = here (leb-true _ _ e) (λ k. absurd (false≢true (sym f ∙ k)))
    go true true true e f g = here (leb-true _ _ e) (λ k. eqb-true _ _ g)
    go true true false e f g = nothing (λ d y w. false≢true (sym g ∙ eq-eqb _ _ (w.marked_stays f)))

-- THE CELLS of a stage at levels that pass a test
record Allowed (S : Steps) (ok : List ℕ → Bool) (xs : List Cell) (c : ℕ) (y : List ℕ) : Type 0 where
  raised : Raised S xs c y
  passes : ok y ≡ true

module _ (S : Steps) where
  -- the first cell at a level, and the others
  Split : (List ℕ → Bool) → Cell → List Cell → ℕ → Problem
  Split ok x xs to = Product (At S x to) (Allowed S (λ y. ok (to ∷ y)) xs)

  split-allowed : (ok : List ℕ → Bool) (x : Cell) (xs : List Cell) (c : ℕ) (y : List ℕ)
      → AnyOf (suc S.top) (Split ok x xs) c y ↔ Allowed S ok (x ∷ xs) c y
  unfolding Split
  split-allowed ok x xs c y = (λ w. to w.which w.among w.valid, λ w. from w.raised w.passes)
    where
      to : (v : ℕ) → v < suc S.top → Product (At S x v) (Allowed S (λ y. ok (v ∷ y)) xs) c y → Allowed S ok (x ∷ xs) c y
      to v h q =
          let e : y ≡ v ∷ q.levels₂ = q.append ∙ ap (λ (l : List ℕ). l ++ q.levels₂) q.valid₁.one in
          let r : Rise S x v = record { up = q.valid₁.up; high = omega arith; marked_stays = q.valid₁.marked_stays } in
          rw e (record {
            raised = rise r q.valid₂.raised (q.sum ∙ ap (λ (k : ℕ). k + q.cost₂) q.valid₁.cost);
            passes = q.valid₂.passes;
          })

      from : {c : ℕ} {y : List ℕ} → Raised S (x ∷ xs) c y → ok y ≡ true → AnyOf (suc S.top) (Split ok x xs) c y
      from (rise {to = v} {k = k} {new = new} p r e) f = record {
        which = v;
        among = omega (arith, p.high);
        valid = record {
          cost₁ = climb S.weight x.level v;
          levels₁ = v ∷ [];
          cost₂ = k;
          levels₂ = new;
          valid₁ = record { one = refl; up = p.up; marked_stays = p.marked_stays; cost = refl };
          valid₂ = record { raised = r; passes = f };
          sum = e;
          append = refl;
        };
      }

  -- the best of all levels that pass
  tried-solves : (ok : List ℕ → Bool) (xs : List Cell) → Solves (Allowed S ok xs) (tried S ok xs)
  unfolding tried Split
  tried-solves ok [] = go (ok []) refl
    where
      only : {d : ℕ} {y : List ℕ} → Raised S [] d y → NoWorse 0 [] d y
      only still = no-worse-refl 0 []

      fails : {d : ℕ} {y : List ℕ} → Raised S [] d y → ok y ≡ true → ok [] ≡ true
      fails still e = e

      go : (b : Bool) → ok [] ≡ b → Solves (Allowed S ok []) (cond b (some free) none)
      go true e = just (record { valid = record { raised = still; passes = e }; least = λ d y w. only w.raised })
      go false e = nothing (λ d y w. false≢true (sym e ∙ fails w.raised w.passes))
  tried-solves ok (x ∷ xs) =
      solves-iff (split-allowed ok x xs)
      (least-solves (suc S.top) (Split ok x xs) _ (λ to.
      solves-product 1 (record { width = λ c y w. ap length w.one }) (at-solves S x to) (tried-solves (λ y. ok (to ∷ y)) xs)))

-- WORDS. Words that test the same are the same
same_true : (v w : List Bool) → same_word v w ≡ true → v ≡ w
unfolding same_word
same_true [] [] e = refl
same_true [] (b ∷ w) e = absurd (false≢true e)
same_true (a ∷ v) [] e = absurd (false≢true e)
same_true (true ∷ v) (true ∷ w) e = ap (λ (l : List Bool). true ∷ l) (same_true v w e)
same_true (true ∷ v) (false ∷ w) e = absurd (false≢true e)
same_true (false ∷ v) (true ∷ w) e = absurd (false≢true e)
same_true (false ∷ v) (false ∷ w) e = ap (λ (l : List Bool). false ∷ l) (same_true v w e)

-- and a word is the same as itself
same_self : (w : List Bool) → same_word w w ≡ true
unfolding same_word
same_self [] = refl
same_self (true ∷ w) = same_self w
same_self (false ∷ w) = same_self w

-- THE CHOICE finds the best levels that mean the wanted word
pub choice-solves : (S : Steps) (M : Meaning) (xs : List Cell) (w : List Bool) → Solves (Group S M xs w) (choice_of S M xs w)
unfolding choice_of
choice-solves S M xs w = solves-iff (λ c y. (to c y, from c y)) (tried-solves S (λ y. same_word (M.means y) w) xs)
  where
    to : (c : ℕ) (y : List ℕ) → Allowed S (λ y. same_word (M.means y) w) xs c y → Group S M xs w c y
    to c y a = record { raised = a.raised; word = same_true _ _ a.passes }

    from : (c : ℕ) (y : List ℕ) → Group S M xs w c y → Allowed S (λ y. same_word (M.means y) w) xs c y
    from c y g = record { raised = g.raised; passes = ap (λ (v : List Bool). same_word v w) g.word ∙ same_self w }

-- so it is one for the search
pub choice-chooses : (S : Steps) (M : Meaning) (n : ℕ) → ((y : List ℕ) → length y ≡ M.cells → length (M.means y) ≡ n)
    → Chooses S M n (choice_of S M)
choice-chooses S M n z = record { sized = z; solves = λ xs w e f. choice-solves S M xs w }
