-- The answer is the call's, in one word.
use Rattle.firmware.proofs.segrunov_write_list.Goals as goal

pub list_word-requires : goal.list_word-requires
list_word-requires c = c.write_list-answer.ensures.list_bounds

pub returns : goal.returns
returns c =
    let l = rw c.write_list-answer.ensures.value at c.list_word.ensures in
    record {
      value = l.value;
      page_after = c.write_list-answer.ensures.page_after;
      wrote_list = rw c.write_list-answer.ensures.value at c.write_list-answer.ensures.wrote_list;
      fields = l.fields;
    }
