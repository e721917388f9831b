-- Laws of the layouts: a data bit is a bit that depends on the cells of its stages alone, and what one bit a cell comes to.
--   code_bit-same, data_bit-same    the code bits of s stages, and their data bits, depend on the cells of these stages
--   data_bit-bound                  a data bit is 0 or 1
--   one_bit-first, one_bit-second   one bit a cell: the code bits are those of the two cells
--   one_bit-data                    and data bit t is the paper's sum of stage t
--   one_bit-stages, one_bit-cells, one_bit-bytes   8·L stages, 16·L cells and 6·L bytes
--   one_bit-map                     and 2·L bytes of a map of the cells
use mathlib.Core.Path.{◌≡◌, ap}
use mathlib.Core.List.{List}
use Prim.Native.Nat.{ℕ, ◌<◌, ◌+◌, ◌*◌, ◌/◌, ◌%◌}
use native.Mathlib.Omega.{arith}
use lib.ListN.{get_or}
use Rattle.cells.specs.Places.{list_of}
use Rattle.cells.proofs.Places.{list_of-same}
use Rattle.cells.proofs.Parts.{place_inside}
use Rattle.codes.specs.Generators.{Generators, g2}
use Rattle.codes.specs.Layouts.{Layout, one_bit, stage_count, cell_count, byte_count, map_count}
use Rattle.codes.specs.Reading.{sum_bit, code_bit, data_bit}
use Rattle.codes.specs.Taps.{first_bit, second_bit}
use Rattle.codes.proofs.Reading.{sum_bit-bound, sum_bit-same}

module _ (lay : Layout) (v w : ℕ → ℕ) (s : ℕ) (same : (c : ℕ) → c < lay.cells * s → v c ≡ w c) where
  -- a code bit by the levels of a strip's cells depends on the cells of its stage
  code_bit-same : (j t : ℕ) → t < s → code_bit lay v j t ≡ code_bit lay w j t
  unfolding code_bit
  code_bit-same j t h =
      ap (λ (l : List ℕ). get_or (lay.shows l) j 0)
      (list_of-same lay.cells _ _ (λ i k. same (lay.cells * t + i) (place_inside lay.cells t i k s h)))

  -- and a data bit on those of its stage and the stages before it
  pub data_bit-same : (G : Generators) (n : ℕ) → n / lay.bits < s → data_bit lay G v n ≡ data_bit lay G w n
  unfolding data_bit
  data_bit-same G n h = sum_bit-same _ _ _ _ _ _ _ _ (λ t k. code_bit-same 0 t (omega arith)) (λ t k. code_bit-same _ t (omega arith))

-- a data bit is 0 or 1
pub data_bit-bound : (lay : Layout) (G : Generators) (v : ℕ → ℕ) (n : ℕ) → data_bit lay G v n < 2
unfolding data_bit
data_bit-bound lay G v n = sum_bit-bound _ _ _ _ _ _

-- ONE BIT A CELL. The first code bit of a stage is that of its first cell
one_bit-first : (v : ℕ → ℕ) (t : ℕ) → code_bit one_bit v 0 t ≡ first_bit v t
unfolding code_bit first_bit list_of
one_bit-first v t = ap (λ (c : ℕ). v c % 2) (omega arith)

-- the second that of its second
one_bit-second : (v : ℕ → ℕ) (t : ℕ) → code_bit one_bit v 1 t ≡ second_bit v t
unfolding code_bit second_bit list_of
one_bit-second v t = ap (λ (c : ℕ). v c % 2) (omega arith)

-- 'Data bit t is the sum, mod 2, over i from 0 to m of G2's digit i times a(t−i) plus G1's digit i times b(t−i).'
pub one_bit-data : (G : Generators) (v : ℕ → ℕ) (t : ℕ)
    → data_bit one_bit G v t ≡ sum_bit G.memory G.g1 (g2 G) (first_bit v) (second_bit v) t
unfolding data_bit
one_bit-data G v t =
    let r : t % 1 ≡ 0 = omega arith in
    let q : t / 1 ≡ t = omega arith in
    rw (r, q) (sum_bit-same _ _ _ _ _ _ _ t (λ s k. one_bit-first v s) (λ s k. one_bit-second v s))

-- 'It has 8·L stages'
pub one_bit-stages : (L : ℕ) → stage_count one_bit L ≡ 8 * L
unfolding stage_count
one_bit-stages L = omega arith

-- 'and two cells for each stage'
pub one_bit-cells : (L : ℕ) → cell_count one_bit L ≡ 16 * L
unfolding cell_count
one_bit-cells L = omega (arith, one_bit-stages L)

-- 'so 6·L bytes'
pub one_bit-bytes : (L : ℕ) → byte_count one_bit L ≡ 6 * L
unfolding byte_count
one_bit-bytes L = omega (arith, one_bit-cells L)

-- and 2·L bytes of a map with one bit for each cell
pub one_bit-map : (L : ℕ) → map_count one_bit L ≡ 2 * L
unfolding map_count
one_bit-map L = omega (arith, one_bit-cells L)
