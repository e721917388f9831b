-- Raised cells: lengths stay, and a raising goes apart and together by groups of cells.
--   raised-length, raised-append              a raising has as many levels as cells; two make one, one after the other
--   Split, raised-split                       a raising splits after any number of cells
--   group-width                               a stage's levels are as many as its cells
--   full-raised, full-length, length-groups   groups of k cells stay groups of k cells; n times k cells are n groups
--   length-words, words-sized                 n words, each of as many bits as a stage shows
use mathlib.Core.Path.{◌≡◌, refl, ◌∙◌, ap}
use mathlib.Core.Bool.{Bool}
use mathlib.Core.List.{List, [], ◌∷◌, ◌++◌}
use Prim.Native.Nat.{ℕ, zero, suc, ◌<◌, ◌+◌, ◌*◌}
use native.Mathlib.Omega.{arith}
use native.Mathlib.Nat.{not-suc-le-zero}
use lib.ListN.{length, get_or, take, drop, length-drop, length-map}
use lib.Seq.{length-take-le}
use Rattle.search.specs.Best.{Width}
use Rattle.cells.specs.Climbs.{climb}
use Rattle.search.specs.Strip.{Steps, Cell, Raised, still, rise, groups, Full, done, more, Meaning, words, Group}
use Rattle.codes.specs.Coset.{BitsEach}

module _ {S : Steps} where
  pub raised-length : {old : List Cell} {c : ℕ} {y : List ℕ} → Raised S old c y → length y ≡ length old
  raised-length still = refl
  raised-length (rise p r e) = ap suc (raised-length r)

  -- two raisings, one after the other
  pub raised-append : {old old' : List Cell} {c c' : ℕ} {y y' : List ℕ} → Raised S old c y → Raised S old' c' y'
      → Raised S (old ++ old') (c + c') (y ++ y')
  raised-append {c' = c'} still q = let e : 0 + c' ≡ c' = omega arith in rw e q
  raised-append {c' = c'} (rise {x = x} {to = w} {c = c} {k = k} p r e) q =
      let f : c + c' ≡ climb S.weight x.level w + (k + c') = omega arith in
      rise p (raised-append r q) f

-- the first k cells, and the others
pub record Split (S : Steps) (k : ℕ) (old : List Cell) (c : ℕ) (y : List ℕ) : Type 0 where
  pub cost₁ : ℕ
  pub cost₂ : ℕ
  pub raised₁ : Raised S (take k old) cost₁ (take k y)
  pub raised₂ : Raised S (drop k old) cost₂ (drop k y)
  pub sum : c ≡ cost₁ + cost₂

-- a raising splits after k cells
pub raised-split : {S : Steps} (k : ℕ) {old : List Cell} {c : ℕ} {y : List ℕ} → Raised S old c y → Split S k old c y
raised-split zero {c = c} r = record { cost₁ = 0; cost₂ = c; raised₁ = still; raised₂ = r; sum = omega arith }
raised-split (suc k) still = record { cost₁ = 0; cost₂ = 0; raised₁ = still; raised₂ = still; sum = refl }
raised-split {S} (suc k) (rise {x = x} {to = w} {old = old} {new = new} p r e) =
    let q : Split S k old _ new = raised-split k r in
    record {
      cost₁ = climb S.weight x.level w + q.cost₁;
      cost₂ = q.cost₂;
      raised₁ = rise p q.raised₁ refl;
      raised₂ = q.raised₂;
      sum = omega arith;
    }

-- a stage's levels are as many as its cells
pub group-width : (S : Steps) (M : Meaning) (xs : List Cell) (w : List Bool) → Width (length xs) (Group S M xs w)
group-width S M xs w = record { width = λ c y g. raised-length g.raised }

-- groups
pub full-raised : {S : Steps} (k : ℕ) {n : ℕ} {old : List Cell} → Full k n old → {c : ℕ} {y : List ℕ} → Raised S old c y → Full k n y
full-raised k done still = done
full-raised {S} k (more e f) r =
    let q : Split S k _ _ _ = raised-split k r in
    more (raised-length q.raised₁ ∙ e) (full-raised k f q.raised₂)

-- a list of n * k elements is n groups of k
pub full-length : {A : Type 0} (k n : ℕ) (l : List A) → length l ≡ n * k → Full k n l
full-length k zero [] e = done
full-length k zero (x ∷ l) e = let z : suc (length l) ≡ 0 * k = e in absurd (omega arith)
full-length k (suc n) l e =
    let f : length l ≡ n * k + k = omega arith in
    more (length-take-le k l (omega arith)) (full-length k n (drop k l) (length-drop k l ∙ omega arith))

-- n groups
pub length-groups : {A : Type 0} (k n : ℕ) (l : List A) → length (groups k n l) ≡ n
unfolding groups
length-groups k zero l = refl
length-groups k (suc n) l = ap suc (length-groups k n (drop k l))

-- n words
pub length-words : (M : Meaning) (n : ℕ) (y : List ℕ) → length (words M n y) ≡ n
unfolding words
length-words M n y = length-map (groups M.cells n y) M.means ∙ length-groups M.cells n y

-- each of b bits
pub words-sized : (M : Meaning) (b : ℕ) → ((y : List ℕ) → length y ≡ M.cells → length (M.means y) ≡ b) → {n : ℕ} {y : List ℕ}
    → Full M.cells n y → BitsEach b n (words M n y)
unfolding words groups
words-sized M b f done = record { size = λ i h. absurd (not-suc-le-zero h) }
words-sized M b f (more {n = n} {l = l} e q) = record { size = go (words-sized M b f q) }
  where
    go : BitsEach b n (words M n (drop M.cells l)) → (i : ℕ) → i < suc n → length (get_or (words M (suc n) l) i []) ≡ b
    go z zero h = f (take M.cells l) e
    go z (suc i) h = z.size i (omega arith)
