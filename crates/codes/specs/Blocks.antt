-- Eight stages at a time: the last eight of a sequence of bits as one number, the newest worth 1 (`window_of 8`), and what a generator makes
-- of them.
--   tapped_of taps step w n          the window w, shifted by each of the first n taps, added up without carries
--   lifted_of taps m step w n        the same the other way, from tap m back, of eight bits
--   untapped_of, unlifted_of         what undoes each of them, of eight bits
--   divided_of taps before d         the eight bits that give the data d, after the eight before them
--   divided_back_of taps m after d   the eight bits that give the data d, before the eight after them
--   Gives taps w d from              eight bits of d, from bit `from` on, are what the taps make of the window w
--   label_at                         the labels of the data: the data divided by G1
use Rattle.std.specs.Prelude.{◌≡◌, List, ℕ, zero, suc, ◌+◌, ◌*◌, ◌-◌, ◌/◌, ◌%◌, ◌^◌, ◌<◌}
use Rattle.std.specs.Int.Bits.{bit_xor}
use Rattle.cells.specs.Bytes.{bit_of}
use Rattle.codes.specs.Generators.{Generators}
use Rattle.codes.specs.Sequences.{odd}
use Rattle.codes.specs.Registers.{quotient}
use Rattle.codes.specs.Numbers.{one-if}
use Rattle.codes.specs.Encoders.{encoder_of}
use Rattle.codes.specs.Taps.{parity_of}

-- the window shifted by `step` places for each tap before tap n that is 1, without carries
unfoldable pub tapped_of : (taps step w n : ℕ) → ℕ
tapped_of taps step w zero = 0
tapped_of taps step w (suc i) = bit_xor (tapped_of taps step w i) (w / 2 ^ (step * i) * (taps / 2 ^ i % 2))

-- eight bits lifted by `step` places for each tap from tap m back, without carries: of the first n taps, what stays within eight bits
unfoldable pub lifted_of : (taps m step w n : ℕ) → ℕ
lifted_of taps m step w zero = 0
lifted_of taps m step w (suc i) = bit_xor (lifted_of taps m step w i) ((w * 2 ^ (step * (m - i))) % 256 * (taps / 2 ^ i % 2))

-- the taps of g · g² · g⁴, which modulo D ^ 8 is the inverse of g
unfoldable pub untapped_of : (taps w : ℕ) → ℕ
untapped_of taps w = tapped_of taps 4 (tapped_of taps 2 (tapped_of taps 1 w 7) 7) 7

-- the same the other way
unfoldable pub unlifted_of : (taps m w : ℕ) → ℕ
unlifted_of taps m w = lifted_of taps m 4 (lifted_of taps m 2 (lifted_of taps m 1 w (suc m)) (suc m)) (suc m)

-- the data divided by the generator of these taps, after the eight bits before: what those add is taken off
unfoldable pub divided_of : (taps before d : ℕ) → ℕ
divided_of taps before d = untapped_of taps (bit_xor d (tapped_of taps 1 (before * 256) 7 % 256))

-- the eight bits before those after: what those add is taken off
unfoldable pub divided_back_of : (taps m after d : ℕ) → ℕ
divided_back_of taps m after d = unlifted_of taps m (bit_xor (d / 2 ^ (8 - m) % 256) (tapped_of taps 1 after 7 / 2 ^ (8 - m)))

-- the taps make the bits of d from bit `from` on, eight of them, of the window w
pub record Gives (taps w d from : ℕ) : Type 0 where
  pub at : (p : ℕ) → p < 8 → parity_of taps (w / 2 ^ (from + p)) ≡ d / 2 ^ (from + p) % 2

-- the label of stage t: the data divided by G1
unfoldable pub label_at : Generators → List ℕ → ℕ → ℕ
label_at G content t = one-if (quotient G.memory (encoder_of G).first (λ t. odd (bit_of content t)) t)
