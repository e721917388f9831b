-- Reading a strip: the paper's sums.
--   ago x t i                  what x was i stages before stage t
--   sum_bit m g1 g a b t       the sum of stage t by the generators g and g1, of the code bits a and b
--   code_bit lay v j t         code bit j of stage t, by the levels v of a strip's cells
--   data_bit lay G v n         bit n of the data
--   read_strip lay G L strip   the L bytes that a strip reads as
use Rattle.std.specs.Prelude.{cond, List, ℕ, suc, ◌+◌, ◌*◌, ◌-◌, ◌/◌, ◌%◌, ltb, get_or}
use Rattle.cells.specs.Places.{list_of, sum_of}
use Rattle.cells.specs.Bytes.{bytes_of}
use Rattle.cells.specs.Levels.{level}
use Rattle.codes.specs.Generators.{Generators, digit}
use Rattle.codes.specs.Layouts.{Layout}

-- x (t − i); 'before stage 0 both are 0'
unfoldable pub ago : (ℕ → ℕ) → ℕ → ℕ → ℕ
ago x t i = cond (ltb t i) 0 (x (t - i))

-- 'the sum, mod 2, over i from 0 to m of G2's digit i times a(t−i) plus G1's digit i times b(t−i)'
unfoldable pub sum_bit : (m g1 g : ℕ) (a b : ℕ → ℕ) (t : ℕ) → ℕ
sum_bit m g1 g a b t = sum_of (suc m) (λ i. digit m g i * ago a t i + digit m g1 i * ago b t i) % 2

-- 'At stage t let a(t) be the bit of cell 2·t and b(t) that of cell 2·t+1': the code bits that the cells of stage t show, by their levels
unfoldable pub code_bit : Layout → (ℕ → ℕ) → ℕ → ℕ → ℕ
code_bit lay v j t = get_or (lay.shows (list_of lay.cells (λ i. v (lay.cells * t + i)))) j 0

-- 'Data bit t is the sum ..': with r data bits a stage, bit n belongs to stage n div r, and is formed from the first code bits with
-- generator n mod r after the first and from that generator's own code bits with G1
unfoldable pub data_bit : Layout → Generators → (ℕ → ℕ) → ℕ → ℕ
data_bit lay G v n =
    sum_bit G.memory G.g1 (get_or G.others (n % lay.bits) 0) (code_bit lay v 0) (code_bit lay v (suc (n % lay.bits))) (n / lay.bits)

-- the L bytes whose bits are these sums, by the levels of a strip's cells
unfoldable pub read_strip : Layout → Generators → ℕ → List ℕ → List ℕ
read_strip lay G L strip = bytes_of L (data_bit lay G (level strip))
