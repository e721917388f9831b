-- The answer is the call's, in one word.
use Rattle.firmware.proofs.segrunov_read.Goals as goal

pub returns : goal.returns
returns c =
    record {
      value = rw c.read.ensures.value at c.completion_word.ensures;
      data_after = c.read.ensures.data_after;
    }
