-- Bits of a list of bytes.
--   bit_of bytes k     bit k
--   bytes_of n f       the n bytes whose bit k is f k
--   Octets bytes       each number of the list is a byte
--   Unset bytes k      bit k lies in the list, and is 0
--   with_bit bytes k   the list with that bit set
use Rattle.std.specs.Prelude.{◌≡◌, List, ℕ, ◌+◌, ◌*◌, ◌/◌, ◌%◌, ◌^◌, ◌<◌, get_or, length, set}
use Rattle.cells.specs.Places.{list_of, from_bits}

-- 'Bit number k of a strip or of its data is bit k mod 8 of byte k div 8, bit 0 being worth 1.'
unfoldable pub bit_of : List ℕ → ℕ → ℕ
bit_of bytes k = (get_or bytes (k / 8) 0 / 2 ^ (k % 8)) % 2

-- the n bytes of these bits
unfoldable pub bytes_of : ℕ → (ℕ → ℕ) → List ℕ
bytes_of n f = list_of n (λ q. from_bits 8 (λ i. f (8 * q + i)))

-- each number is a byte
pub record Octets (bytes : List ℕ) : Type 0 where
  pub below : (q : ℕ) → q < length bytes → get_or bytes q 0 < 256

-- bit k lies in the bytes, and is 0
pub record Unset (bytes : List ℕ) (k : ℕ) : Type 0 where
  pub inside : k < 8 * length bytes
  pub zero_there : bit_of bytes k ≡ 0

-- the bytes with bit k, which is 0 there, set
unfoldable pub with_bit : List ℕ → ℕ → List ℕ
with_bit bytes k = set bytes (k / 8) (get_or bytes (k / 8) 0 + 2 ^ (k % 8))
