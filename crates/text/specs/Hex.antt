-- Data in hexadecimal; the laws of proofs/Hex.antt tie what a line says to the text.
--   hex_text         the text of bytes
--   is_data, pairs   whether a line is the text of n bytes, and the bytes
--   content_of       the data of a line, if it is in form
use Rattle.std.specs.Prelude.{Bool, true, cond, ◌&&◌, ◌||◌, List, [], ◌∷◌, ℕ, ◌+◌, ◌*◌, ◌/◌, ◌%◌, ltb, leb, eqb, length}
use Rattle.std.proofs.Math.Option.{Option, none, some}

-- a lower-case hexadecimal digit
unfoldable pub hex_digit : ℕ → ℕ
hex_digit n = cond (ltb n 10) (48 + n) (87 + n)

-- 'two lower-case hexadecimal digits a byte'
unfoldable pub hex_text : List ℕ → List ℕ
hex_text [] = []
hex_text (b ∷ rest) = hex_digit (b / 16) ∷ hex_digit (b % 16) ∷ hex_text rest

-- whether a byte is a lower-case hexadecimal digit
unfoldable pub is_hex : ℕ → Bool
is_hex c = (leb 48 c && ltb c 58) || (leb 97 c && ltb c 103)

unfoldable pub all_hex : List ℕ → Bool
all_hex [] = true
all_hex (c ∷ rest) = is_hex c && all_hex rest

-- the number of a digit
unfoldable pub nibble : ℕ → ℕ
nibble c = cond (ltb c 58) (c % 16) ((c % 16 + 9) % 16)

-- the bytes of pairs of digits
unfoldable pub pairs : List ℕ → List ℕ
pairs [] = []
pairs (a ∷ []) = []
pairs (a ∷ b ∷ rest) = (nibble a * 16 + nibble b) ∷ pairs rest

-- whether a line is the text of n bytes: 'a data line of another length than L·S bytes is at fault'
unfoldable pub is_data : ℕ → List ℕ → Bool
is_data n line = eqb (length line) (2 * n) && all_hex line

-- the data of a line, if it is in form
unfoldable pub content_of : ℕ → List ℕ → Option (List ℕ)
content_of n line = cond (is_data n line) (some (pairs line)) none

-- the data after a line is read into them: its bytes where it is in form, and as they were where it is not
unfoldable pub decoded_of : List ℕ → List ℕ → List ℕ
decoded_of before line = cond (is_data (length before) line) (pairs line) before
