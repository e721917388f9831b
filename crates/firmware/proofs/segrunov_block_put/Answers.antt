-- The answer is the call's, in one word.
use Rattle.words.proofs.Words.{lower-half}
use Rattle.firmware.proofs.segrunov_block_put.Goals as goal

pub returns : goal.returns
returns c =
    record {
      value = rw c.put.ensures.value at c.answer_word.ensures;
      block_after = c.put.ensures.block_after;
      wrote_put = rw c.put.ensures.value at c.put.ensures.wrote_put;
      result_bound = lower-half _ c.put.ensures.result_bound c.answer_word.ensures;
    }
