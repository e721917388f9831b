-- The size of a page's data, and the row of a write from its parts.
--   size-given, size-refused, size-bound   the size is L·S, or 0 where the values are refused, and at most 4096
--   in-limits                              L·S where the values are given
--   row_is                                 the row's four numbers are those of the answer and of the page after the write
use mathlib.Core.Path.{◌≡◌, refl}
use mathlib.Core.List.{List}
use mathlib.Core.Option.{Option, none, some}
use Prim.Native.Nat.{ℕ, ◌*◌, ◌≤◌}
use native.Mathlib.Omega.{arith}
use Rattle.cells.specs.Levels.{raises_of}
use Rattle.codes.proofs.Layouts.{one_bit-cells}
use Rattle.page_answers.specs.declared.Answer.{Answer}
use Rattle.refusals.specs.declared.Refusal.{Refusal}
use Rattle.refusals.specs.Refusals.{sizes_ground}
use Rattle.page_answers.specs.Answers.{number_of, answer_cost}
use Rattle.refusals.proofs.Refusals.{limits-size, sizes-limits}
use Rattle.text.specs.declared.Values.{Values}
use Rattle.text.specs.Text.{row_text}
use Rattle.turn_rows.specs.Rows.{size_of, values_answer, values_page, row_after, write_row}

module _ (v : Values) where
  -- L·S is at most 4096
  pub in-limits : sizes_ground v.code v.bytes v.strips ≡ none → v.bytes * v.strips ≤ 4096
  in-limits e = limits-size v.bytes v.strips (sizes-limits v.code v.bytes v.strips e)

  pub size-given : sizes_ground v.code v.bytes v.strips ≡ none → size_of v ≡ v.bytes * v.strips
  unfolding size_of
  size-given e = rw e

  pub size-refused : {r : Refusal} → sizes_ground v.code v.bytes v.strips ≡ some r → size_of v ≡ 0
  unfolding size_of
  size-refused e = rw e

  pub size-bound : size_of v ≤ 4096
  size-bound = by (sizes_ground v.code v.bytes v.strips) refl
    where
      by : (g : Option Refusal) → sizes_ground v.code v.bytes v.strips ≡ g → size_of v ≤ 4096
      by none e = omega (arith, size-given e, in-limits e)
      by (some r) e = omega (arith, size-refused e)

module _ (v : Values) (before content : List ℕ) (answer : Answer) (after : List ℕ)
    (a : answer ≡ values_answer v before content) (p : after ≡ values_page v before content) where
  pub row_is : (number n cost levels size : ℕ) → n ≡ number_of answer → cost ≡ answer_cost answer → size ≡ size_of v
      → levels ≡ raises_of (16 * size) after → row_text number n cost levels ≡ write_row number v before content
  unfolding write_row row_after
  row_is number n cost levels size en ec es el = rw (en, ec, el, es, a, p, one_bit-cells (size_of v))
