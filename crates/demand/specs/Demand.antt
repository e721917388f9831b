-- WHAT A WRITE PICKS, over the whole page and every content. No state, no digit, no trellis.
--   Could           a page that reads as the data with no cell lowered, and with marked cells at their level
--   LowerAtFirst    the lower level at the first cell whose levels differ
--   Cheapest        the page and the cost of a write that is done
--   Fits, SpentAt   a strip that takes its part; the strip at which a page is spent
use Rattle.std.specs.Prelude.{◌≡◌, true, List, ℕ, ◌<◌, ◌≤◌, length}
use Rattle.cells.specs.Levels.{level}
use Rattle.cells.specs.Raising.{start_in, raised_to}
use Rattle.cells.specs.Climbs.{cost_of, weight_of}
use Rattle.demand.specs.Jobs.{Job, width, page_cells, strip_job}
use Rattle.demand.specs.Reading.{read_by}

-- a page that 'reads as the data with no cell lowered'; a marked cell stays at its level
pub record Could (J : Job) (other : List ℕ) : Type 0 where
  pub size : length other ≡ length J.page
  pub reads : read_by J.layout J.code J.bytes J.strips other ≡ J.content
  pub no_lower : (c : ℕ) → c < page_cells J → level J.page c ≤ level other c
  pub marked_stay : (c : ℕ) → c < page_cells J → J.marks c ≡ true → level other c ≡ level J.page c

-- 'the lower level at the first cell whose levels differ', 'the cells of strip 0 coming first'
pub record LowerAtFirst (cells : ℕ) (after other : List ℕ) : Type 0 where
  pub cell : ℕ
  pub inside : cell < cells
  pub same : (c : ℕ) → c < cell → level after c ≡ level other c
  pub lower : level after cell < level other cell

-- what a change of the job's page costs
unfoldable pub job_cost : Job → List ℕ → ℕ
job_cost J after = cost_of (weight_of J.weights) (page_cells J) J.page after

-- 'Write picks the page of least cost that reads as the data with no cell lowered. Among equals it takes the one with the lower level at
-- the first cell whose levels differ.' 'A cell that isn't raised keeps its bits'; the raises of the cell with the number n in its strip
-- start at bit start n
pub record Cheapest (start : ℕ → ℕ) (J : Job) (after : List ℕ) (cost : ℕ) : Type 0 where
  pub could : Could J after
  pub raised : after ≡ raised_to (start_in start (width J)) J.page (level after)
  pub paid : job_cost J after ≡ cost
  pub least : (other : List ℕ) → Could J other → cost ≤ job_cost J other
  pub among_equals : (other : List ℕ) → Could J other → job_cost J other ≡ cost
      → (c : ℕ) → c < page_cells J → (level after c ≡ level other c → ⊥) → LowerAtFirst (page_cells J) after other

-- strip k takes its own part of the data
pub record Fits (J : Job) (k : ℕ) : Type 0 where
  pub pattern : List ℕ
  pub could : Could (strip_job J k) pattern

-- 'spent with the lowest number of a strip for which no pattern reads as its own part of the data with no cell lowered'; then there is no
-- page at any cost
pub record SpentAt (J : Job) (k : ℕ) : Type 0 where
  pub inside : k < J.strips
  pub no_page : (other : List ℕ) → Could J other → ⊥
  pub no_pattern : (other : List ℕ) → Could (strip_job J k) other → ⊥
  pub lowest : (j : ℕ) → j < k → Fits J j
