-- The run of the paper's example, and the runs of faulty inputs.
--   example-holds   THE EXAMPLE prints exactly what the paper writes
--   faults-hold     FAULTS and what they print
use mathlib.Core.Path.{◌≡◌, refl, ◌∙◌, ap₂}
use mathlib.Core.List.{List, [], ◌∷◌, ◌++◌}
use Prim.Native.Nat.{ℕ}
use Rattle.cells.specs.Places.{sum_of, Each, same_list}
use Rattle.cells.proofs.Places.{each_first, each-rest}
use Rattle.cells.specs.Bytes.{bit_of}
use Rattle.cells.specs.Levels.{level, raises_of}
use Rattle.codes.specs.Layouts.{stage_count, cell_count, byte_count}
use Rattle.refusals.specs.Refusals.{one_to_64, is_code, code_ground, bytes_ground, strips_ground, limits_ground, sizes_ground}
use Rattle.page_answers.specs.declared.Answer.TheVariants as A
use Rattle.page_known.proofs.Known.{cases-hold}
use Rattle.text.specs.declared.Values.{Values}
use Rattle.text.specs.Text.{onto, decimal, names_text, values_text, head_text, row_text, fault_head, fault_text}
use Rattle.text.specs.Lines.{step_of, scan_of, five_digits, checked, values_of}
use Rattle.text.specs.Hex.{is_hex, all_hex, nibble, pairs, is_data}
use Rattle.turn_rows.specs.Rows.{size_of, values_answer, values_page, row_after, write_row}
use Rattle.turns.specs.Turns.{names_turn, values_turn, data_turn, write_turn, line_turn}
use Rattle.script.specs.Runs.{lines_from, lines_of, run_from, run_of, example_input, example_output}

-- the example's values, and the page before each write and after the last
v : Values
v = record { code = 3; bytes = 1; strips = 1 }

six : ℕ → List ℕ
six last = 0 ∷ 0 ∷ 0 ∷ 0 ∷ 0 ∷ last ∷ []

-- a write with the example's values
writes : List ℕ → List ℕ → ℕ → List ℕ → Type 0
writes before content cost after = (values_answer v before content ≡ A.Done cost) × (values_page v before content ≡ after)

-- the rows of a table from row 6 on
from-6 : {G : Type 0} {P : G → Type 0} {a b c d e f : G} {gs : List G} → Each P (a ∷ b ∷ c ∷ d ∷ e ∷ f ∷ gs) → Each P gs
from-6 t = each-rest (each-rest (each-rest (each-rest (each-rest (each-rest t)))))

-- the three writes, which the paper's table has as rows 6 to 8
first : writes (six 0) (128 ∷ []) 16 (six 32)
unfolding writes six v
first = each_first (from-6 cases-hold)

second : writes (six 32) (0 ∷ []) 16 (six 48)
unfolding writes six v
second = each_first (each-rest (from-6 cases-hold))

third : writes (six 48) (128 ∷ []) 20 (six 112)
unfolding writes six v
third = each_first (each-rest (each-rest (from-6 cases-hold)))

-- the row of a write that writes this
row-of : (n : ℕ) (before content : List ℕ) (cost : ℕ) (after : List ℕ) → writes before content cost after
    → write_row n v before content ≡ row_after n v (A.Done cost) after
unfolding write_row writes
row-of n before content cost after s = ap₂ (row_after n v) s.0 s.1

-- the run as its rows, by the pages after the first two writes
rows : List ℕ → List ℕ → List ℕ
rows one two = head_text ++ (write_row 1 v (six 0) (128 ∷ []) ++ (write_row 2 v one (0 ∷ []) ++ (write_row 3 v two (128 ∷ []) ++ [])))

listed : run_of example_input ≡ rows (values_page v (six 0) (128 ∷ [])) (values_page v (values_page v (six 0) (128 ∷ [])) (0 ∷ []))
unfolding example_input run_of lines_of lines_from run_from line_turn names_turn values_turn data_turn write_turn same_list values_of checked
    scan_of step_of five_digits values_text decimal onto sizes_ground limits_ground is_code code_ground bytes_ground strips_ground one_to_64 size_of
    is_data all_hex is_hex pairs nibble six v rows byte_count cell_count stage_count
listed = refl

-- the rows of the three writes, evaluated
row : ℕ → ℕ → ℕ → List ℕ
row n cost last = row_after n v (A.Done cost) (six last)

printed : head_text ++ (row 1 16 32 ++ (row 2 16 48 ++ (row 3 20 112 ++ []))) ≡ example_output
unfolding row_after row_text decimal onto raises_of sum_of level bit_of size_of sizes_ground limits_ground is_code code_ground bytes_ground
    strips_ground one_to_64 head_text example_output six v row cell_count stage_count
printed = refl

-- THE THEOREM
pub example-holds : run_of example_input ≡ example_output
unfolding writes rows row
example-holds =
    listed
    ∙ rw (first.1, second.1, row-of 1 _ _ _ _ first, row-of 2 _ _ _ _ second, row-of 3 _ _ _ _ third) printed

-- FAULTS: no line at all, line 2 is 03 1 1, line 2 is 4 0 0 (the code is tested first), line 3 is not ended, the data are 8A
pub faults-hold : (run_of [] ≡ fault_text 6 1)
    × (run_of (names_text ++ 10 ∷ 48 ∷ 51 ∷ 32 ∷ 49 ∷ 32 ∷ 49 ∷ 10 ∷ []) ≡ fault_text 6 2)
    × (run_of (names_text ++ 10 ∷ 52 ∷ 32 ∷ 48 ∷ 32 ∷ 48 ∷ 10 ∷ []) ≡ fault_text 1 2)
    × (run_of (names_text ++ 10 ∷ 51 ∷ 32 ∷ 49 ∷ 32 ∷ 49 ∷ 10 ∷ 100 ∷ 97 ∷ 116 ∷ 97 ∷ []) ≡ fault_text 6 3)
    × (run_of (names_text ++ 10 ∷ 51 ∷ 32 ∷ 49 ∷ 32 ∷ 49 ∷ 10 ∷ 100 ∷ 97 ∷ 116 ∷ 97 ∷ 10 ∷ 56 ∷ 65 ∷ 10 ∷ []) ≡ head_text ++ fault_text 6 4)
unfolding run_of lines_of lines_from run_from line_turn names_turn values_turn data_turn write_turn same_list values_of checked scan_of step_of
    five_digits values_text decimal onto sizes_ground limits_ground is_code code_ground bytes_ground strips_ground one_to_64 size_of is_data all_hex
    is_hex pairs nibble fault_text fault_head
faults-hold = (refl, refl, refl, refl, refl)
