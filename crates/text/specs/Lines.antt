-- What lines 1 to 3 say, computed; the laws of proofs/Lines.antt tie it to the text.
--   same               whether two texts are the same
--   step_of, scan_of   the values that stand in a line, byte by byte
--   values_of          the values of a line 2, if it is in form
--   form_of            the same as a function's answer
use Rattle.std.specs.Prelude.{Bool, cond, ◌&&◌, List, [], ◌∷◌, ℕ, ◌+◌, ◌*◌, ◌%◌, ltb, eqb}
use Rattle.std.proofs.Math.Option.{Option, none, some}
use Rattle.std.specs.Prelude as std
use Rattle.cells.specs.Places.{same_list}
use Rattle.text.specs.Text.{values_text}
use Rattle.text.specs.declared.Values.{Values}

-- one byte of line 2: a digit goes to the right of the last value, and a space starts the next one
unfoldable pub step_of : Values → ℕ → Values
step_of v c =
    cond (eqb c 32)
    (record { code = v.bytes; bytes = v.strips; strips = 0 })
    (record { code = v.code; bytes = v.bytes; strips = v.strips % 100000 * 10 + c % 16 })

-- the values that a line 2 in form has; of another line it is some values, and their text is not the line
unfoldable pub scan_of : Values → List ℕ → Values
scan_of v [] = v
scan_of v (c ∷ rest) = scan_of (step_of v c) rest

abbrev pub no_values : Values
no_values = record { code = 0; bytes = 0; strips = 0 }

-- 'one to five digits'
unfoldable pub five_digits : Values → Bool
five_digits v = ltb v.code 100000 && (ltb v.bytes 100000 && ltb v.strips 100000)

-- the values of a line that is their text
unfoldable pub checked : Values → List ℕ → Option Values
checked v line = cond (five_digits v && same_list line (values_text v)) (some v) none

unfoldable pub values_of : List ℕ → Option Values
values_of line = checked (scan_of no_values line) line

abbrev pub form_of : Option Values → std.Option Values
form_of none = std.None
form_of (some v) = std.Some v
