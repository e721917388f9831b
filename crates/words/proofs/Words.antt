-- The one number that an answer is to C.
--   lower-half    its lower half is the answer's value, so a bound of the one is a bound of the other
--   number-most   the number of an answer fits in its field of 8 bits
--   list-fields   no field of a list's number runs into the next one
use mathlib.Core.Path.{◌≡◌}
use Prim.Native.Nat.{ℕ, ◌%◌, ◌≤◌}
use native.Mathlib.Omega.{arith}
use Rattle.refusals.specs.Refusals.{refusal_number}
use Rattle.refusals.specs.declared.Refusal.{Refusal}
use Rattle.refusals.specs.declared.Refusal.TheVariants as R
use Rattle.page_answers.specs.Answers.{value_of, end_number}
use Rattle.page_promises.specs.Lists.{ListBounds}
use Rattle.page_answers.specs.declared.Answer.{Answer}
use Rattle.page_answers.specs.declared.End.{End}
use Rattle.page_answers.specs.declared.End.TheVariants as E
use Rattle.page_answers.specs.declared.ListAnswer.{ListAnswer}
use Rattle.words.specs.Words.{answer_word, list_word, Fields}

-- the lower half of the number is the value, so what bounds the value bounds it
pub lower-half : (a : Answer) {r most : ℕ} → value_of a ≤ most → r ≡ answer_word a → r % 4294967296 ≤ most
unfolding answer_word
lower-half a h e = omega arith

-- the number of a refusal fits in a field of 8 bits
refusal-most : (r : Refusal) → refusal_number r ≤ 255
refusal-most R.CodeUnknown = omega arith
refusal-most R.BandOutside = omega arith
refusal-most R.PagesOutside = omega arith
refusal-most R.PageMissing = omega arith
refusal-most R.BytesOutside = omega arith
refusal-most R.StripsOutside = omega arith
refusal-most R.WeightZero = omega arith
refusal-most R.CountOutside = omega arith
refusal-most R.PageLength = omega arith
refusal-most R.MapLength = omega arith
refusal-most R.DataLength = omega arith
refusal-most R.EraseTemperature = omega arith

-- and so does that of a list's end
pub number-most : (end : End) → end_number end ≤ 255
number-most E.Done = omega arith
number-most (E.Spent strip) = omega arith
number-most (E.Refused r) = refusal-most r

-- NO FIELD RUNS INTO THE NEXT ONE
pub list-fields : (a : ListAnswer) {r : ℕ} → ListBounds a → r ≡ list_word a → Fields r a
unfolding list_word
list-fields a b e = record {
  cost_field = omega (arith, b.cost_most);
  number_field = omega (arith, b.cost_most, number-most a.end);
  written_field = omega (arith, b.cost_most, b.written_most, number-most a.end);
  strip_field = omega (arith, b.cost_most, b.written_most, number-most a.end);
}
