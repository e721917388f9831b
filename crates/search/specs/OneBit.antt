-- ONE BIT A CELL, two cells a stage: what the four words of a stage cost, and which first code bit wins a tie.
--   bit_price S x b      what it costs that the cell x shows the bit b
--   one_bit_prices S g   the prices of the stage g
use Rattle.std.specs.Prelude.{Bool, false, ℕ, ◌/◌, get_or}
use Rattle.std.proofs.Math.Option.{Option}
use Rattle.codes.specs.Sequences.{◌+₂◌, odd}
use Rattle.search.specs.Strip.{Steps, Cell}
use Rattle.search.specs.Levels.{cell_at}
use Rattle.search.specs.Search.{Stage}
use Rattle.search.specs.Parity.{keep-or-raise}
use Rattle.search.specs.Plan.{solution_cost, add}
use Rattle.search.specs.Plain.{Prices}

-- nothing where the cell shows the bit already, else the weight of its step; none where it cannot rise
unfoldable pub bit_price : Steps → Cell → Bool → Option ℕ
bit_price S x b = solution_cost (keep-or-raise S x b)

-- word j asks its bit 0 of the first cell, and its bit 1 with the label added of the second; the lower level at the first cell is that of
-- the bit it shows
unfoldable pub one_bit_prices : Steps → Stage → Prices
one_bit_prices S g = record {
  of = λ j. add (bit_price S (cell_at g.cells 0) (odd j)) (bit_price S (cell_at g.cells 1) (odd (j / 2) +₂ get_or g.adds 0 false));
  stay = odd (cell_at g.cells 0).level;
}
