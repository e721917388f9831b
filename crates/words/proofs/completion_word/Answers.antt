-- The word has the number of the completion, and no value.
use native.Mathlib.Omega.{arith}
use Rattle.words.specs.Words.{completion_word}
use Rattle.words.proofs.completion_word.Goals as goal

pub returns : goal.returns
unfolding completion_word
returns c = omega (arith, c.packed.ensures, c.completion_number.ensures)
