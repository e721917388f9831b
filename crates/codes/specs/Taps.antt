-- What the code computes with: a generator's digits as the bits of one number, and windows of the last bits, the newest bit worth 1.
--   taps_of m g             the generator's digits, digit i worth 2 ^ i
--   parity_of taps w        the sum mod 2 of digit i times bit i of the window w
--   word_of G w             a branch's two output bits, by the window of its last input digits
--   window_of n x t         the last n of the bits x 0 .. x (t − 1)
--   first_bit, second_bit   the bits of a stage's two cells, by the levels
--   tapped_bit g1 g2 v t    data bit t by the taps g1 and g2 and such windows of the cells' bits
use Rattle.std.specs.Prelude.{ℕ, zero, suc, ◌+◌, ◌*◌, ◌%◌, ◌^◌}
use Rattle.std.specs.Int.Bits.{bit_and}
use Rattle.std.specs.Int.Count.{ones}
use Rattle.cells.specs.Places.{from_bits}
use Rattle.codes.specs.Generators.{Generators, g2, digit}

-- the generator's digits from the present stage back, digit i worth 2 ^ i
unfoldable pub taps_of : ℕ → ℕ → ℕ
taps_of m g = from_bits (suc m) (digit m g)

-- how many taps meet a one of the window, mod 2
unfoldable pub parity_of : ℕ → ℕ → ℕ
parity_of taps w = ones (bit_and taps w) % 2

-- the two output bits of a branch, G1's worth 1 and G2's worth 2
unfoldable pub word_of : Generators → ℕ → ℕ
word_of G w = parity_of (taps_of G.memory G.g1) w + 2 * parity_of (taps_of G.memory (g2 G)) w

-- the last n bits of a sequence before stage t, the newest worth 1
unfoldable pub window_of : ℕ → (ℕ → ℕ) → ℕ → ℕ
window_of n x zero = 0
window_of n x (suc t) = (2 * window_of n x t + x t) % 2 ^ n

-- the bit of the first cell of stage t
unfoldable pub first_bit : (ℕ → ℕ) → ℕ → ℕ
first_bit v t = v (2 * t) % 2

-- and of the second
unfoldable pub second_bit : (ℕ → ℕ) → ℕ → ℕ
second_bit v t = v (2 * t + 1) % 2

-- data bit t by windows of the last seven cell bits: the most that a generator of memory 6 reaches
unfoldable pub tapped_bit : ℕ → ℕ → (ℕ → ℕ) → ℕ → ℕ
tapped_bit g1 g2 v t = (parity_of g2 (window_of 7 (first_bit v) (suc t)) + parity_of g1 (window_of 7 (second_bit v) (suc t))) % 2
