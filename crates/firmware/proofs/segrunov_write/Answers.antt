-- The answer is the call's, in one word.
use Rattle.words.proofs.Words.{lower-half}
use Rattle.firmware.proofs.segrunov_write.Goals as goal

pub returns : goal.returns
returns c =
    record {
      value = rw c.write.ensures.value at c.answer_word.ensures;
      page_after = c.write.ensures.page_after;
      wrote = rw c.write.ensures.value at c.write.ensures.wrote;
      result_bound = lower-half _ c.write.ensures.result_bound c.answer_word.ensures;
    }
