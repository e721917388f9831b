-- The word has the number and the value of the answer.
use native.Mathlib.Omega.{arith}
use Rattle.words.specs.Words.{answer_word}
use Rattle.words.proofs.answer_word.Goals as goal

pub returns : goal.returns
unfolding answer_word
returns c = omega (arith, c.packed.ensures, c.value.ensures, c.number.ensures)
