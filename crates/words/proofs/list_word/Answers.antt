-- The word has the four fields of the answer, each within its own bits.
use mathlib.Core.Path.{◌≡◌}
use Prim.Native.Nat.{◌+◌, ◌*◌, ◌≤◌}
use native.Mathlib.Omega.{arith}
use Rattle.words.specs.Words.{list_word}
use Rattle.words.proofs.Words.{number-most, list-fields}
use Rattle.words.proofs.list_word.Goals as goal

pub overflow_add-result : goal.overflow_add-result
overflow_add-result c =
    let low : c.packed.result ≤ 256 * 4294967296 = omega (arith, c.packed.ensures, c.end_number.ensures, number-most c.args.answer.end, c.requires.cost_most) in
    omega (arith, low, c.requires.written_most)

pub overflow_add-result-2 : goal.overflow_add-result-2
overflow_add-result-2 c =
    let low : c.packed.result ≤ 256 * 4294967296 = omega (arith, c.packed.ensures, c.end_number.ensures, number-most c.args.answer.end, c.requires.cost_most) in
    omega (arith, low, c.requires.written_most, c.requires.strip_most, c.end_strip-strip.ensures)

pub returns : goal.returns
unfolding list_word
returns c =
    let word : c.packed.result + c.args.answer.written * 1099511627776 + c.end_strip-strip.result * 281474976710656 ≡ list_word c.args.answer = omega (arith, c.packed.ensures, c.end_number.ensures, c.end_strip-strip.ensures) in
    record {
      value = word;
      fields = list-fields c.args.answer c.requires word;
    }
