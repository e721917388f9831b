-- The answer is the call's, without the value stored, in one word.
use Rattle.words.proofs.Words.{lower-half}
use Rattle.firmware.proofs.segrunov_write_band.Goals as goal

pub returns : goal.returns
returns c =
    let e = rw c.plain.ensures at c.answer_word.ensures in
    record {
      value = rw c.write_band-answer.ensures.value at e;
      page_after = c.write_band-answer.ensures.page_after;
      wrote_band = rw c.write_band-answer.ensures.value at c.write_band-answer.ensures.wrote_band;
      result_bound = lower-half _ c.write_band-answer.ensures.result_bound e;
    }
