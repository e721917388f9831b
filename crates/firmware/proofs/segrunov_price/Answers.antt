-- The answer is the call's, in one word.
use Rattle.words.proofs.Words.{lower-half}
use Rattle.firmware.proofs.segrunov_price.Goals as goal

pub returns : goal.returns
returns c =
    record {
      value = rw c.price.ensures.value at c.answer_word.ensures;
      wrote = rw c.price.ensures.value at c.price.ensures.wrote;
      result_bound = lower-half _ c.price.ensures.result_bound c.answer_word.ensures;
    }
