-- The answer is the call's, in one word.
use Rattle.words.proofs.Words.{lower-half}
use Rattle.firmware.proofs.segrunov_price_mapped.Goals as goal

pub returns : goal.returns
returns c =
    record {
      value = rw c.price_mapped-answer.ensures.value at c.answer_word.ensures;
      wrote_with = rw c.price_mapped-answer.ensures.value at c.price_mapped-answer.ensures.wrote_with;
      result_bound = lower-half _ c.price_mapped-answer.ensures.result_bound c.answer_word.ensures;
    }
