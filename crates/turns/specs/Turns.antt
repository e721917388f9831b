-- What each line does.
--   Progress         how far the run is: the number of the next line, the values of line 2, the page
--   Turned           what is printed, how far the run is then, and whether it goes on
--   names_turn, values_turn, data_turn, write_turn   lines 1, 2 and 3, and a data line
--   line_turn        THE TURN of a line, by its number
--   run_after        where the run is after a turn, as the program has it
--   Told, ToldPage   a function's answer tells of a turn, and its page too
use Rattle.std.specs.Prelude.{◌≡◌, Bool, true, false, cond, ◌&&◌, List, [], ℕ, ◌+◌, ◌-◌, ◌≤◌, length, ltb, leb, eqb, replicate}
use Rattle.std.proofs.Math.Option.{Option, none, some}
use Rattle.codes.specs.Layouts.{one_bit, byte_count}
use Rattle.refusals.specs.declared.Refusal.{Refusal}
use Rattle.refusals.specs.Refusals.{sizes_ground, refusal_number, text_number}
use Rattle.text.specs.declared.Values.{Values}
use Rattle.text.specs.Text.{names_text, data_text, head_text, fault_text}
use Rattle.cells.specs.Places.{same_list}
use Rattle.text.specs.Lines.{values_of}
use Rattle.text.specs.Hex.{is_data, pairs}
use Rattle.turn_rows.specs.Rows.{size_of, values_page, write_row}
use Rattle.turns.specs.declared.Run.{Run}
use Rattle.turns.specs.declared.Turn.{Turn}

pub record Progress : Type 0 where
  pub number : ℕ
  pub values : Values
  pub page : List ℕ

abbrev pub at_line : ℕ → Values → List ℕ → Progress
at_line number v page = record { number = number; values = v; page = page }

pub record Turned : Type 0 where
  pub text : List ℕ
  pub after : Progress
  pub on : Bool

-- 'prints `refusal line`, the two values in a line, and stops'
abbrev pub halt : ℕ → Progress → Turned
halt refusal p = record { text = fault_text refusal p.number; after = p; on = false }

-- the next line follows, with these values and this page
abbrev pub goes : Progress → List ℕ → Values → List ℕ → Turned
goes p text v page = record { text = text; after = at_line (p.number + 1) v page; on = true }

-- line 1; '6: text of the program is not in its form'
unfoldable pub names_turn : Progress → List ℕ → Turned
names_turn p line = cond (same_list line names_text) (goes p [] p.values p.page) (halt text_number p)

-- line 2: 'values refused by 1 to 3 give line 2'
abbrev pub judged_turn : Progress → Values → Option Refusal → Turned
judged_turn p v none = goes p [] v p.page
judged_turn p v (some r) = halt (refusal_number r) p

abbrev pub form_turn : Progress → Option Values → Turned
form_turn p none = halt text_number p
form_turn p (some v) = judged_turn p v (sizes_ground v.code v.bytes v.strips)

unfoldable pub values_turn : Progress → List ℕ → Turned
values_turn p line = form_turn p (values_of line)

-- line 3: the writes start 'with an erased page'
unfoldable pub data_turn : Progress → List ℕ → Turned
data_turn p line =
    cond (same_list line data_text) (goes p head_text p.values (replicate (byte_count one_bit (size_of p.values)) 0)) (halt text_number p)

-- a data line, of which n bytes are wanted; write 1 is line 4: 'a data line of another length than L·S bytes is at fault by 6,
-- and so is a 1,001st data line'
unfoldable pub write_turn : ℕ → Progress → List ℕ → Turned
write_turn n p line =
    cond (leb p.number 1003 && is_data n line)
    (goes p (write_row (p.number - 3) p.values p.page (pairs line)) p.values (values_page p.values p.page (pairs line)))
    (halt text_number p)

unfoldable pub line_turn : Progress → List ℕ → Turned
line_turn p line =
    cond (ltb 3 p.number) (write_turn (size_of p.values) p line)
    (cond (eqb p.number 3) (data_turn p line) (cond (eqb p.number 2) (values_turn p line) (names_turn p line)))

-- after a turn no byte of the next line is there
abbrev pub run_after : Turned → Run
run_after t = record { values = t.after.values; number = t.after.number; used = 0; on = t.on }

-- the turn's text is printed, of at most 96 bytes, and the run is where the turn leaves it
pub record Shown (text : List ℕ) (run : Run) (r : Turn) : Type 0 where
  pub text_is : r.printed ≡ text
  pub near : length r.printed ≤ 96
  pub run_is : r.run ≡ run

abbrev pub Told : Turned → Turn → Type 0
Told t r = Shown t.text (run_after t) r

-- and the page is that after the turn
pub record ToldPage (t : Turned) (r : Turn) (page : List ℕ) : Type 0 where
  pub told : Told t r
  pub page_is : page ≡ t.after.page
