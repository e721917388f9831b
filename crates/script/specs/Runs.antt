-- The whole run, from the input's bytes to the output's.
--   lines_of           the input's lines
--   onward             what is printed from a turn on
--   run_from           what is printed from a line on
--   run_of             THE RUN
--   RowsFrom, Output   the form of what is printed: rows, and the whole
use Rattle.std.specs.Prelude.{cond, List, [], ◌∷◌, ◌++◌, ◌⊎◌, ◌≡◌, ℕ, ◌+◌, ◌≤◌, ltb, eqb}
use Rattle.std.proofs.Math.Option.{Option, none, some}
use Rattle.refusals.specs.Refusals.{text_number}
use Rattle.text.specs.Text.{names_text, head_text, row_text, fault_text}
use Rattle.text.specs.Lines.{no_values}
use Rattle.turns.specs.Turns.{Progress, at_line, Turned, line_turn}

-- 'Every line ends in byte 10': the lines, where so much of the next one is known; what is left at the end is no line, and stands as none
unfoldable pub lines_from : List ℕ → List ℕ → List (Option (List ℕ))
lines_from [] [] = []
lines_from (a ∷ part) [] = none ∷ []
lines_from part (b ∷ rest) = cond (eqb b 10) (some part ∷ lines_from [] rest) (lines_from (part ++ b ∷ []) rest)

unfoldable pub lines_of : List ℕ → List (Option (List ℕ))
lines_of input = lines_from [] input

-- the turn's text, and then what follows it, where the run goes on
abbrev pub onward : Turned → (Progress → List ℕ) → List ℕ
onward t rest = t.text ++ cond t.on (rest t.after) []

-- 'A line that breaks these rules, or is missing, is refusal 6 with its line number': lines 1 to 3 must be there, and every line must end.
-- 'Lines are judged in order and the first at fault is reported'; 'rows printed before remain'
unfoldable pub run_from : Progress → List (Option (List ℕ)) → List ℕ
run_from p [] = cond (ltb 3 p.number) [] (fault_text text_number p.number)
run_from p (none ∷ rest) = fault_text text_number p.number
run_from p (some line ∷ rest) = onward (line_turn p line) (λ q. run_from q rest)

-- THE RUN: what the program prints of this input. There is no page before line 3
unfoldable pub run_of : List ℕ → List ℕ
run_of input = run_from (at_line 1 no_values []) (lines_of input)

-- THE FORM OF WHAT IS PRINTED. 'One row a write: its number from 1, 0 or 7, the cost, the sum of the levels', and at most 1,000 of them:
-- the rows from write k on, and behind them nothing, or the fault of the next line
pub data RowsFrom : ℕ → List ℕ → Type 0 where
  no_more : {k : ℕ} → RowsFrom k []
  fault : {k : ℕ} → RowsFrom k (fault_text text_number (k + 3))
  row : {k : ℕ} (answer cost levels : ℕ) {rest : List ℕ} → k ≤ 1000 → (answer ≡ 0) ⊎ (answer ≡ 7) → RowsFrom (k + 1) rest
      → RowsFrom k (row_text k answer cost levels ++ rest)

-- a fault of lines 1 to 3, by 6; 'values refused by 1 to 3 give line 2'; or the head and the rows
pub data Output : List ℕ → Type 0 where
  faulted : (line : ℕ) → 1 ≤ line → line ≤ 3 → Output (fault_text text_number line)
  refused : (refusal : ℕ) → 1 ≤ refusal → refusal ≤ 3 → Output (fault_text refusal 2)
  headed : {rest : List ℕ} → RowsFrom 1 rest → Output (head_text ++ rest)

-- the paper's example
--   code bytes strips / 3 1 1 / data / 80 / 00 / 80
unfoldable pub example_input : List ℕ
example_input =
    names_text ++ 10 ∷ 51 ∷ 32 ∷ 49 ∷ 32 ∷ 49 ∷ 10 ∷ 100 ∷ 97 ∷ 116 ∷ 97 ∷ 10 ∷ 56 ∷ 48 ∷ 10 ∷ 48 ∷ 48 ∷ 10 ∷ 56 ∷ 48 ∷ 10 ∷ []

--   write answer cost levels / 1 0 16 1 / 2 0 16 2 / 3 0 20 3
unfoldable pub example_output : List ℕ
example_output =
    head_text
    ++ 49 ∷ 32 ∷ 48 ∷ 32 ∷ 49 ∷ 54 ∷ 32 ∷ 49 ∷ 10
    ∷ 50 ∷ 32 ∷ 48 ∷ 32 ∷ 49 ∷ 54 ∷ 32 ∷ 50 ∷ 10
    ∷ 51 ∷ 32 ∷ 48 ∷ 32 ∷ 50 ∷ 48 ∷ 32 ∷ 51 ∷ 10 ∷ []
