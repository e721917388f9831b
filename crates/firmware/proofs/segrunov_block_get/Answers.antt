-- The answer is the call's, in one word.
use Rattle.firmware.proofs.segrunov_block_get.Goals as goal

pub returns : goal.returns
returns c =
    record {
      value = rw c.get.ensures.value at c.completion_word.ensures;
      data_after = c.get.ensures.data_after;
    }
