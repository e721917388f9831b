-- The answer is the call's, in one word.
use Rattle.firmware.proofs.segrunov_write_list_mapped.Goals as goal

pub list_word-requires : goal.list_word-requires
list_word-requires c = c.write_list_mapped-answer.ensures.list_bounds

pub returns : goal.returns
returns c =
    let l = rw c.write_list_mapped-answer.ensures.value at c.list_word.ensures in
    record {
      value = l.value;
      page_after = c.write_list_mapped-answer.ensures.page_after;
      wrote_list = rw c.write_list_mapped-answer.ensures.value at c.write_list_mapped-answer.ensures.wrote_list;
      fields = l.fields;
    }
