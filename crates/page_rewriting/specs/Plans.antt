-- What a write keeps between planning and carrying out: the plan of each strip, in its own part.
--   Planned   each strip's part of the digits is its plan
--   Carried   each strip of the page is raised to what its digits want
use Rattle.std.specs.Prelude.{◌≡◌, List, ℕ, ◌<◌, length}
use Rattle.std.proofs.Math.Option.{some}
use Rattle.cells.specs.Marks.{marks_in}
use Rattle.cells.specs.Raising.{start_of, raised_to}
use Rattle.codes.specs.Generators.{Generators}
use Rattle.search.specs.Best.{Solution}
use Rattle.carrying.specs.Carrying.{digit_in, carried_to}
use Rattle.trellis.specs.Plans.{Plans}
use Rattle.demand.specs.Jobs.{part}
use Rattle.demand.specs.Computed.{page_write}
use Rattle.page_parts.specs.Shape.{map_part, strip_part}
use Rattle.page_promises.specs.Writes.{one_bit_job}

-- where every strip has a write, strip k's part of the digits is its plan
pub record Planned (G : Generators) (W : List ℕ) (L S : ℕ) (page map content digits : List ℕ) : Type 0 where
  pub planned : (a : Solution) → page_write (one_bit_job (marks_in map) G W L S page content) ≡ some a → (k : ℕ) → k < S
      → Plans G W (strip_part L k page) (marks_in (map_part L k map)) (part L k content) (part L k digits)

-- strip k of the page after is strip k before, raised to what its part of the digits wants
pub record Carried (G : Generators) (L S : ℕ) (before content digits after : List ℕ) : Type 0 where
  pub same_size : length after ≡ length before
  pub carried : (k : ℕ) → k < S
      → strip_part L k after
      ≡ raised_to start_of (strip_part L k before) (carried_to G (strip_part L k before) (part L k content) (digit_in (part L k digits)))
