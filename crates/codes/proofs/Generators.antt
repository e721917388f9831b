-- Laws of a generator's digits. For the reader: the digits of the four generators, and readings that tell one end of a generator from the
-- other. No row of the paper's table does, as 7 and 5 are palindromes and 171 and 133 begin and end in one.
--   digit-bound                           a digit is 0 or 1
--   short-g1, short-g2                    7 and 5 by their digits
--   long-g1, long-g2                      171 and 133 by theirs
--   first-cell-long, second-cell-long     what the first cell alone reads as, and the second: code 7
--   first-cell-short, second-cell-short   code 3
use mathlib.Core.Path.{◌≡◌, refl}
use mathlib.Core.List.{[], ◌∷◌}
use Prim.Native.Nat.{ℕ, ◌<◌}
use native.Mathlib.Nat.{mod-lt, zero-lt-suc}
use Rattle.cells.specs.Places.{list_of, sum_of, from_bits}
use Rattle.cells.specs.Bytes.{bit_of, bytes_of}
use Rattle.cells.specs.Levels.{level}
use Rattle.codes.specs.Generators.{short, long, digit}
use Rattle.codes.specs.Layouts.{one_bit}
use Rattle.codes.specs.Reading.{ago, sum_bit, code_bit, data_bit, read_strip}

-- a digit is 0 or 1
pub digit-bound : (m g i : ℕ) → digit m g i < 2
unfolding digit
digit-bound m g i = mod-lt _ (zero-lt-suc 1)

-- 7 is 1 1 1
pub short-g1 : list_of 3 (digit 2 0o7) ≡ 1 ∷ 1 ∷ 1 ∷ []
unfolding list_of digit
short-g1 = refl

-- 5 is 1 0 1
pub short-g2 : list_of 3 (digit 2 0o5) ≡ 1 ∷ 0 ∷ 1 ∷ []
unfolding list_of digit
short-g2 = refl

-- 171 is 1 111 001, the leftmost digit the present stage's
pub long-g1 : list_of 7 (digit 6 0o171) ≡ 1 ∷ 1 ∷ 1 ∷ 1 ∷ 0 ∷ 0 ∷ 1 ∷ []
unfolding list_of digit
long-g1 = refl

-- 133 is 1 011 011
pub long-g2 : list_of 7 (digit 6 0o133) ≡ 1 ∷ 0 ∷ 1 ∷ 1 ∷ 0 ∷ 1 ∷ 1 ∷ []
unfolding list_of digit
long-g2 = refl

-- the first cell alone at level 1 reads 6d with code 7: the digits of 133 from the present stage on, bit 0 first
pub first-cell-long : read_strip one_bit long 1 (1 ∷ 0 ∷ 0 ∷ 0 ∷ 0 ∷ 0 ∷ []) ≡ 0x6d ∷ []
unfolding read_strip bytes_of list_of from_bits data_bit sum_bit code_bit sum_of digit ago level bit_of
first-cell-long = refl

-- the second cell alone reads 4f with code 7: the digits of 171
pub second-cell-long : read_strip one_bit long 1 (8 ∷ 0 ∷ 0 ∷ 0 ∷ 0 ∷ 0 ∷ []) ≡ 0x4f ∷ []
unfolding read_strip bytes_of list_of from_bits data_bit sum_bit code_bit sum_of digit ago level bit_of
second-cell-long = refl

-- the first cell alone reads 05 with code 3, and the second 07
pub first-cell-short : read_strip one_bit short 1 (1 ∷ 0 ∷ 0 ∷ 0 ∷ 0 ∷ 0 ∷ []) ≡ 0x05 ∷ []
unfolding read_strip bytes_of list_of from_bits data_bit sum_bit code_bit sum_of digit ago level bit_of
first-cell-short = refl

pub second-cell-short : read_strip one_bit short 1 (8 ∷ 0 ∷ 0 ∷ 0 ∷ 0 ∷ 0 ∷ []) ≡ 0x07 ∷ []
unfolding read_strip bytes_of list_of from_bits data_bit sum_bit code_bit sum_of digit ago level bit_of
second-cell-short = refl
