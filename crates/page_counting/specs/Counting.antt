-- The census of a page: how many cells of each strip are at each level.
--   count_of n v l   how many of the first n levels v are l
--   row_of, row_at   a strip's row; row k of a page of S strips
--   census_of        the census on every input
use Rattle.std.specs.Prelude.{cond, List, [], ◌∷◌, ℕ, eqb, ltb, length}
use Rattle.std.proofs.Math.Option.{Option, none, some}
use Rattle.cells.specs.Places.{list_of, sum_of}
use Rattle.codes.specs.Layouts.{Layout, one_bit, cell_count}
use Rattle.demand.specs.Reading.{strip_levels}
use Rattle.refusals.specs.Refusals.{shape_ground, completion_of}
use Rattle.refusals.specs.declared.Refusal.{Refusal}
use Rattle.page_counting.specs.declared.Row.{Row}
use Rattle.page_counting.specs.declared.Census.{Census}

-- the cells at level l among the first n
unfoldable pub count_of : ℕ → (ℕ → ℕ) → ℕ → ℕ
count_of n v l = sum_of n (λ c. cond (eqb (v c) l) 1 0)

-- 'four counts in each row, the cells at levels 0 to 3'
unfoldable pub row_of : ℕ → (ℕ → ℕ) → Row
row_of n v = record { counts = count_of n v 0 ∷ count_of n v 1 ∷ count_of n v 2 ∷ count_of n v 3 ∷ [] }

-- no cells
abbrev pub zero_row : Row
zero_row = record { counts = 0 ∷ 0 ∷ 0 ∷ 0 ∷ [] }

-- 'one row for each strip'; 'the rows from S to 63 are zero'
unfoldable pub row_at : Layout → ℕ → ℕ → List ℕ → ℕ → Row
row_at lay L S page k = cond (ltb k S) (row_of (cell_count lay L) (strip_levels (cell_count lay L) page k)) zero_row

-- the rows of a page, or all zeros with a refusal
unfoldable pub rows_of : Layout → Option Refusal → ℕ → ℕ → List ℕ → List Row
rows_of lay none L S page = list_of 64 (row_at lay L S page)
rows_of lay (some r) L S page = list_of 64 (λ k. zero_row)

-- the census, one bit a cell
unfoldable pub census_of : ℕ → ℕ → List ℕ → Census
census_of L S page =
    record { answer = completion_of (shape_ground L S (length page)); rows = rows_of one_bit (shape_ground L S (length page)) L S page }
