-- THE FORM OF WHAT A RUN PRINTS, along the whole run from the erased page on.
--   begun-starts, begun-goes   the values are in order and the page has their size, from line 4 on
--   rows-from                  each data line prints a row whose answer is 0 or 7, at most 1,000 of them, or is at fault
--   run-output                 THE OUTPUT of any input
use mathlib.Core.Path.{◌≡◌, refl, ◌∙◌}
use mathlib.Core.Bool.{Bool, true, false, cond, ◌&&◌}
use mathlib.Core.List.{List, [], ◌∷◌, ◌++◌, append-nil}
use mathlib.Core.Option.{Option, none, some}
use Prim.Native.Nat.{ℕ, ◌+◌, ◌-◌, ◌≤◌}
use native.Mathlib.Omega.{arith}
use lib.Dec.{leb}
use lib.ListN.{replicate, length-replicate}
use borrow.Author.Tests.{lt-ltb, leb-true}
use Rattle.cells.proofs.Places.{and_both}
use Rattle.cells.specs.Climbs.{house}
use Rattle.cells.specs.Places.{same_list}
use Rattle.cells.specs.Raising.{start_of}
use Rattle.codes.specs.Layouts.{one_bit, byte_count}
use Rattle.refusals.specs.declared.Refusal.{Refusal}
use Rattle.refusals.specs.Refusals.{sizes_ground, refusal_number, text_number}
use Rattle.refusals.proofs.Refusals.{sizes-number}
use Rattle.page_promises.proofs.Promise.{page-length}
use Rattle.text.specs.declared.Values.{Values}
use Rattle.text.specs.Text.{names_text, data_text, head_text}
use Rattle.text.specs.Lines.{no_values, values_of}
use Rattle.text.specs.Hex.{pairs, is_data}
use Rattle.turn_rows.specs.Rows.{size_of, values_page, row_after, write_row}
use Rattle.turns.specs.Turns.{Progress, at_line, halt, goes, names_turn, judged_turn, form_turn, values_turn, data_turn, write_turn, line_turn}
use Rattle.script.specs.Runs.{lines_of, onward, run_from, run_of, RowsFrom, no_more, fault, row, Output, faulted, refused, headed}
use Rattle.turns.proofs.Turns.{Begun, answers-0-or-7}

-- line 3 begins the writes with an erased page
begun-starts : (v : Values) → sizes_ground v.code v.bytes v.strips ≡ none
    → Begun (at_line 4 v (replicate (byte_count one_bit (size_of v)) 0))
begun-starts v e = record { late = omega arith; judged = e; sized = length-replicate (byte_count one_bit (size_of v)) 0 }

-- and a write keeps the page's size
begun-goes : (p : Progress) (content : List ℕ) → Begun p
    → Begun (at_line (p.number + 1) p.values (values_page p.values p.page content))
begun-goes p content b =
    let v = p.values in
    record {
      late = let h = b.late in omega arith;
      judged = b.judged;
      sized = page-length start_of none house v.code v.bytes v.strips p.page content ∙ b.sized;
    }

-- EACH DATA LINE prints a row whose answer is 0 or 7, or is at fault and the last
rows-from : (lines : List (Option (List ℕ))) (p : Progress) (k : ℕ) → Begun p → p.number ≡ k + 3 → RowsFrom k (run_from p lines)
unfolding run_from line_turn write_turn write_row row_after
rows-from [] p k b e = rw (lt-ltb 3 p.number b.late) no_more
rows-from (none ∷ rest) p k b e = rw e fault
rows-from (some line ∷ rest) p k b e =
    by (leb p.number 1003 && is_data (size_of p.values) line) refl
    (λ after h f. rows-from rest after (k + 1) h f)
  where
    by : (t : Bool) → leb p.number 1003 && is_data (size_of p.values) line ≡ t
        → ((after : Progress) → Begun after → after.number ≡ k + 1 + 3 → RowsFrom (k + 1) (run_from after rest))
        → RowsFrom k (onward (line_turn p line) (λ q. run_from q rest))
    by true f ih =
        let n : p.number - 3 ≡ k = omega arith in
        let d = and_both (leb p.number 1003) (is_data (size_of p.values) line) f in
        let most : k ≤ 1000 = let h = leb-true p.number 1003 d.0 in omega arith in
        rw (lt-ltb 3 p.number b.late, f, n)
        (row _ _ _ most (answers-0-or-7 p line b d.1)
        (ih (at_line (p.number + 1) p.values (values_page p.values p.page (pairs line))) (begun-goes p (pairs line) b)
        (omega arith)))
    by false f ih = rw (lt-ltb 3 p.number b.late, f, append-nil, e) fault

-- the text of a turn that halts is the last
halts : (text : List ℕ) → Output text → Output (text ++ [])
halts text o = rw (append-nil text) o

-- LINES 1 TO 3, and what follows them
from-line-3 : (lines : List (Option (List ℕ))) (v : Values) → sizes_ground v.code v.bytes v.strips ≡ none
    → Output (run_from (at_line 3 v []) lines)
unfolding run_from line_turn data_turn
from-line-3 [] v e = faulted 3 (omega arith) (omega arith)
from-line-3 (none ∷ rest) v e = faulted 3 (omega arith) (omega arith)
from-line-3 (some line ∷ rest) v e = by (same_list line data_text)
  where
    by : (t : Bool) → Output
        (onward (cond t (goes (at_line 3 v []) head_text v (replicate (byte_count one_bit (size_of v)) 0)) (halt text_number (at_line 3 v [])))
        (λ q. run_from q rest))
    by true = headed (rows-from rest (at_line 4 v (replicate (byte_count one_bit (size_of v)) 0)) 1 (begun-starts v e) refl)
    by false = halts _ (faulted 3 (omega arith) (omega arith))

from-line-2 : (lines : List (Option (List ℕ))) (v : Values) → Output (run_from (at_line 2 v []) lines)
unfolding run_from line_turn values_turn
from-line-2 [] v = faulted 2 (omega arith) (omega arith)
from-line-2 (none ∷ rest) v = faulted 2 (omega arith) (omega arith)
from-line-2 (some line ∷ rest) v = by (values_of line)
  where
    judged : (w : Values) (g : Option Refusal) → sizes_ground w.code w.bytes w.strips ≡ g
        → Output (onward (judged_turn (at_line 2 v []) w g) (λ q. run_from q rest))
    judged w none e = from-line-3 rest w e
    judged w (some r) e = let n = sizes-number w.code w.bytes w.strips e in halts _ (refused (refusal_number r) n.0 n.1)

    by : (o : Option Values) → Output (onward (form_turn (at_line 2 v []) o) (λ q. run_from q rest))
    by none = halts _ (faulted 2 (omega arith) (omega arith))
    by (some w) = judged w (sizes_ground w.code w.bytes w.strips) refl

from-line-1 : (lines : List (Option (List ℕ))) (v : Values) → Output (run_from (at_line 1 v []) lines)
unfolding run_from line_turn names_turn
from-line-1 [] v = faulted 1 (omega arith) (omega arith)
from-line-1 (none ∷ rest) v = faulted 1 (omega arith) (omega arith)
from-line-1 (some line ∷ rest) v = by (same_list line names_text)
  where
    by : (t : Bool) → Output (onward (cond t (goes (at_line 1 v []) [] v []) (halt text_number (at_line 1 v []))) (λ q. run_from q rest))
    by true = from-line-2 rest v
    by false = halts _ (faulted 1 (omega arith) (omega arith))

-- THE OUTPUT of any input: a fault of lines 1 to 3, or the head and at most 1,000 rows, each with the answer 0 or 7
pub run-output : (input : List ℕ) → Output (run_of input)
unfolding run_of
run-output input = from-line-1 (lines_of input) no_values
