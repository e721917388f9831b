-- The row of a write.
--   size_of                      the bytes of a page's data
--   values_answer, values_page   a write's answer and the page after it, by the values of line 2
--   write_row                    the row
use Rattle.std.specs.Prelude.{List, ℕ, ◌*◌}
use Rattle.cells.specs.Levels.{raises_of}
use Rattle.cells.specs.Climbs.{house}
use Rattle.codes.specs.Layouts.{one_bit, cell_count}
use Rattle.page_answers.specs.declared.Answer.{Answer}
use Rattle.refusals.specs.Refusals.{sizes_ground, kept}
use Rattle.page_promises.specs.Writes.{answer_of, page_of}
use Rattle.page_answers.specs.Answers.{number_of, answer_cost}
use Rattle.text.specs.declared.Values.{Values}
use Rattle.text.specs.Text.{row_text}

-- 'Its data has L·S bytes'; 0 where the values are refused
unfoldable pub size_of : Values → ℕ
size_of v = kept (sizes_ground v.code v.bytes v.strips) (v.bytes * v.strips) 0

-- a write with the values of line 2
abbrev pub values_answer : Values → List ℕ → List ℕ → Answer
values_answer v before content = answer_of house v.code v.bytes v.strips before content

abbrev pub values_page : Values → List ℕ → List ℕ → List ℕ
values_page v before content = page_of house v.code v.bytes v.strips before content

-- the row of a write's number, answer and page after it, which has 16·L·S cells
unfoldable pub row_after : ℕ → Values → Answer → List ℕ → List ℕ
row_after number v answer after = row_text number (number_of answer) (answer_cost answer) (raises_of (cell_count one_bit (size_of v)) after)

-- THE ROW of a write of this data to this page
unfoldable pub write_row : ℕ → Values → List ℕ → List ℕ → List ℕ
write_row number v before content = row_after number v (values_answer v before content) (values_page v before content)
