-- The census: one cell more in a row, and one row more in the rows.
--   row-le, row_next              a row, cell by cell
--   strip-row                     a strip's row is that of its cells of the page
--   rows_none, rows_more          the rows, strip by strip
--   census-refused, census-done   the census by the judge's answer
use mathlib.Core.Path.{◌≡◌, refl, sym, ◌∙◌, ap, ap₂}
use mathlib.Core.Bool.{Bool, true, false, cond}
use mathlib.Core.List.{List, ◌∷◌}
use mathlib.Core.Option.{none}
use Prim.Native.Nat.{ℕ, zero, suc, ◌<◌, ◌≤◌, ◌+◌, ◌*◌}
use native.Mathlib.Omega.{arith}
use native.Mathlib.Nat.{not-suc-le-zero, add-zero}
use native.Mathlib.Numerals.{add-one, lt_of_le_of_ne}
use lib.Dec.{eqb, ltb}
use lib.ListN.{length, get_or, set}
use borrow.Author.Tests.{lt-ltb, le-ltb, ltb-true, ltb-false}
use Rattle.cells.specs.Places.{list_of, sum_of}
use Rattle.cells.specs.Levels.{level}
use Rattle.cells.proofs.Places.{list_of-same, sum_of-same, sum_of-more, sum_of-le}
use Rattle.codes.specs.Layouts.{Layout, one_bit, cell_count, byte_count}
use Rattle.demand.specs.Jobs.{part}
use Rattle.demand.specs.Reading.{strip_levels}
use Rattle.demand.proofs.Jobs.{part-level}
use Rattle.refusals.specs.Refusals.{shape_ground, completion_of}
use Rattle.page_counting.specs.Counting.{count_of, row_of, zero_row, row_at, rows_of, census_of}
use Rattle.refusals.specs.declared.Refusal.{Refusal}
use Rattle.std.specs.Prelude.{Result, Err, ⊤}
use Rattle.page_counting.specs.declared.Row.{Row}
use Rattle.refusals.proofs.Refusals.{refused-some}

-- A ROW. One cell more
count-more : (n : ℕ) (v : ℕ → ℕ) (l : ℕ) → count_of (n + 1) v l ≡ count_of n v l + cond (eqb (v n) l) 1 0
unfolding count_of
count-more n v l = rw (add-one n) (sum_of-more n _)

-- no more cells than there are
count-le : (n : ℕ) (v : ℕ → ℕ) (l : ℕ) → count_of n v l ≤ n
unfolding count_of
count-le n v l = omega (arith, sum_of-le n 1 (λ c. cond (eqb (v c) l) 1 0) (λ c i. hit (eqb (v c) l)))
  where
    hit : (b : Bool) → cond b 1 0 ≤ 1
    hit true = omega arith
    hit false = omega arith

module _ (n : ℕ) (v : ℕ → ℕ) where
  -- the count of a level in a row is at most the number of cells
  pub row-le : (l : ℕ) → l ≤ 3 → get_or (row_of n v).counts l 0 ≤ n
  unfolding row_of
  row-le zero h = count-le n v 0
  row-le (suc zero) h = count-le n v 1
  row-le (suc (suc zero)) h = count-le n v 2
  row-le (suc (suc (suc zero))) h = count-le n v 3
  row-le (suc (suc (suc (suc l)))) h = absurd (let z : ⊥ = omega arith in z)

  -- one more at the level of the next cell
  pub row_next : (l : ℕ) → v n ≡ l → l ≤ 3 → set (row_of n v).counts l (get_or (row_of n v).counts l 0 + 1) ≡ (row_of (n + 1) v).counts
  unfolding row_of
  row_next zero e h = rw (count-more n v 0, count-more n v 1, count-more n v 2, count-more n v 3, e) (simp add-zero)
  row_next (suc zero) e h = rw (count-more n v 0, count-more n v 1, count-more n v 2, count-more n v 3, e) (simp add-zero)
  row_next (suc (suc zero)) e h = rw (count-more n v 0, count-more n v 1, count-more n v 2, count-more n v 3, e) (simp add-zero)
  row_next (suc (suc (suc zero))) e h = rw (count-more n v 0, count-more n v 1, count-more n v 2, count-more n v 3, e) (simp add-zero)
  row_next (suc (suc (suc (suc l)))) e h = absurd (let z : ⊥ = omega arith in z)

-- a strip's row is that of its cells of the page
pub strip-row : (lay : Layout) (L k : ℕ) (page : List ℕ) → 3 * cell_count lay L ≡ 8 * byte_count lay L
    → row_of (cell_count lay L) (level (part (byte_count lay L) k page)) ≡ row_of (cell_count lay L) (strip_levels (cell_count lay L) page k)
unfolding row_of count_of strip_levels
strip-row lay L k page fill = simp (count 0, count 1, count 2, count 3)
  where
    count : (l : ℕ) → sum_of (cell_count lay L) (λ c. cond (eqb (level (part (byte_count lay L) k page) c) l) 1 0)
        ≡ sum_of (cell_count lay L) (λ c. cond (eqb (level page (cell_count lay L * k + c)) l) 1 0)
    count l =
        sum_of-same
        (cell_count lay L) _ _ (λ c h. ap (λ (x : ℕ). cond (eqb x l) 1 0) (part-level (cell_count lay L) (byte_count lay L) fill k page c h))

-- THE ROWS. A list with place k stored
set-list_of : {A : Type 0} (n k : ℕ) (f g : ℕ → A) (x : A) → k < n → x ≡ g k → ((i : ℕ) → (i ≡ k → ⊥) → f i ≡ g i)
    → set (list_of n f) k x ≡ list_of n g
unfolding list_of
set-list_of zero k f g x h e d = absurd (not-suc-le-zero h)
set-list_of {A} (suc n) zero f g x h e d = ap₂ (λ (y : A) (l : List A). y ∷ l) e (list_of-same n _ _ (λ i m. d (suc i) (λ z. omega arith)))
set-list_of {A} (suc n) (suc k) f g x h e d =
    ap₂ (λ (y : A) (l : List A). y ∷ l) (d 0 (λ z. omega arith))
    (set-list_of n k (λ i. f (suc i)) (λ i. g (suc i)) x (omega arith) e (λ i z. d (suc i) (λ w. z (omega arith))))

-- away from k the tests against k and k + 1 agree
same_test : (i k : ℕ) → (i ≡ k → ⊥) → ltb i k ≡ ltb i (k + 1)
same_test i k d = go (ltb i k) refl
  where
    go : (b : Bool) → ltb i k ≡ b → ltb i k ≡ ltb i (k + 1)
    go true e = e ∙ sym (lt-ltb i (k + 1) (omega (arith, ltb-true i k e)))
    go false e = e ∙ sym (le-ltb i (k + 1) (omega (arith, lt_of_le_of_ne {n = k} {m = i} (ltb-false i k e) (λ (q : k ≡ i). d (sym q)))))

-- no strip yet: all zeros
pub rows_none : (lay : Layout) (L : ℕ) (page : List ℕ) → list_of 64 (λ k. zero_row) ≡ list_of 64 (row_at lay L 0 page)
unfolding row_at
rows_none lay L page = list_of-same 64 _ _ (λ i h. rw (le-ltb i 0 (omega arith)))

-- row k stored: the rows of k + 1 strips
pub rows_more : (lay : Layout) (L k : ℕ) (page : List ℕ) (r : Row) → k < 64
    → r ≡ row_of (cell_count lay L) (strip_levels (cell_count lay L) page k)
    → set (list_of 64 (row_at lay L k page)) k r ≡ list_of 64 (row_at lay L (k + 1) page)
unfolding row_at
rows_more lay L k page r h e =
    set-list_of 64 k _ _ r h
    (e ∙ rw (lt-ltb k (k + 1) (omega arith)))
    (λ i d. ap (λ (b : Bool). cond b (row_of (cell_count lay L) (strip_levels (cell_count lay L) page i)) zero_row) (same_test i k d))

-- THE CENSUS. The judge's answer c beside the rows
module _ (L S : ℕ) (page : List ℕ) (c : Result ⊤ Refusal) (e : c ≡ completion_of (shape_ground L S (length page))) where
  -- with a refusal
  pub census-refused : {r : Refusal} → c ≡ Err r → record { answer = c; rows = list_of 64 (λ k. zero_row) } ≡ census_of L S page
  unfolding census_of rows_of
  census-refused f = rw (refused-some (shape_ground L S (length page)) (sym e ∙ f))
      (ap (λ (x : Result ⊤ Refusal). record { answer = x; rows = list_of 64 (λ k. zero_row) }) f)

  -- with none
  pub census-done : (rows : List Row) → shape_ground L S (length page) ≡ none → rows ≡ list_of 64 (row_at one_bit L S page)
      → record { answer = c; rows = rows } ≡ census_of L S page
  unfolding census_of rows_of
  census-done rows f g = rw f (ap₂ (λ (x : Result ⊤ Refusal) (y : List Row). record { answer = x; rows = y }) (e ∙ ap completion_of f) g)
