-- A plan: the digits of a strip's write, a bit a stage.
--   write_of   the write of a strip of bytes, one bit a cell
--   Plans      digits that lead to the levels of the write
use Rattle.std.specs.Prelude.{◌≡◌, Bool, List, ℕ, ◌<◌, length}
use Rattle.std.proofs.Math.Option.{Option, some}
use Rattle.codes.specs.Generators.{Generators}
use Rattle.codes.specs.Layouts.{one_bit, cell_count}
use Rattle.search.specs.Best.{Solution}
use Rattle.search.specs.Levels.{level_at}
use Rattle.search.specs.Layouts.{rewrite_of}
use Rattle.carrying.specs.Carrying.{digit_in, carried_to}

-- the write of a strip of bytes, of which some cells are marked
abbrev pub write_of : Generators → List ℕ → List ℕ → (ℕ → Bool) → List ℕ → Option Solution
write_of G W strip marks content = rewrite_of one_bit G W (length content) strip marks content

-- where the strip has a write, the digits carried out raise its cells to the write's levels
pub record Plans (G : Generators) (W strip : List ℕ) (marks : ℕ → Bool) (content digits : List ℕ) : Type 0 where
  pub leads : (a : Solution) → write_of G W strip marks content ≡ some a
      → (c : ℕ) → c < cell_count one_bit (length content) → carried_to G strip content (digit_in digits) c ≡ level_at a.levels c
