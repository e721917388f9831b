-- The answer is the call's, in one word.
use Rattle.words.proofs.Words.{lower-half}
use Rattle.firmware.proofs.segrunov_write_mapped.Goals as goal

pub returns : goal.returns
returns c =
    record {
      value = rw c.write_mapped-answer.ensures.value at c.answer_word.ensures;
      page_after = c.write_mapped-answer.ensures.page_after;
      wrote_with = rw c.write_mapped-answer.ensures.value at c.write_mapped-answer.ensures.wrote_with;
      result_bound = lower-half _ c.write_mapped-answer.ensures.result_bound c.answer_word.ensures;
    }
