use mathlib.Core.Path.{◌≡◌, refl, sym, ◌∙◌, ap}
use mathlib.Core.Bool.{Bool, true, false, true≢false}
use mathlib.Core.List.{List}
use mathlib.Core.Option.{Option, none, some}
use Prim.Native.Nat.{ℕ, ◌*◌, ◌≤◌}
use native.Mathlib.Omega.{arith}
use lib.ListN.{length}
use Rattle.std.specs.Prelude.{Result, Ok, Err, ⊤, is_err}
use Rattle.cells.specs.Places.{list_of}
use Rattle.cells.specs.Levels.{level}
use Rattle.codes.specs.Layouts.{one_bit, byte_count}
use Rattle.codes.proofs.Layouts.{one_bit-cells}
use Rattle.demand.specs.Jobs.{part}
use Rattle.refusals.specs.Refusals.{shape_ground, completion_of}
use Rattle.refusals.specs.declared.Refusal.{Refusal}
use Rattle.page_counting.specs.Counting.{row_of, zero_row, row_at, census_of}
use Rattle.page_parts.proofs.Strips.{strip-there}
use Rattle.refusals.proofs.Refusals.{shape-limits, limits-most, shape-in-order}
use Rattle.demand.proofs.Jobs.{one_bit-whole}
use Rattle.page_counting.proofs.Counts.{strip-row, rows_none, rows_more, census-refused, census-done}
use Rattle.page_counting.proofs.counting.census.Goals as goal

-- an answer that is no refusal has no ground
no-refusal : (g : Option Refusal) → is_err (completion_of g) ≡ false → g ≡ none
no-refusal none f = refl
no-refusal (some r) f = absurd (true≢false f)

-- the judge's answer c by what is_err tells of it: with a refusal the rows are zeros
refused : (L S : ℕ) (page : List ℕ) (c : Result ⊤ Refusal) {b : Bool} → c ≡ completion_of (shape_ground L S (length page)) → b ≡ is_err c
    → b ≡ true → record { answer = c; rows = list_of 64 (λ k. zero_row) } ≡ census_of L S page
refused L S page (Ok done) e v f = absurd (true≢false (sym f ∙ v))
refused L S page (Err r) e v f = census-refused L S page (Err r) e refl

module _ (L S page : ℕ) {c : Result ⊤ Refusal} {b : Bool} (e : c ≡ completion_of (shape_ground L S page)) (v : b ≡ is_err c) (f : b ≡ false) where
  -- with none, the shape has no ground
  in-shape : shape_ground L S page ≡ none
  in-shape = no-refusal (shape_ground L S page) (ap is_err (sym e) ∙ sym v ∙ f)

  -- and its limits are kept
  in-limits : (L ≤ 64) × (S ≤ 64)
  in-limits = limits-most L S (shape-limits L S page in-shape)

pub returns-then-is_err : goal.returns-then-is_err
unfolding list_of
returns-then-is_err c =
    refused c.args.bytes c.args.strips c.args.page.now c.judge_shape-answer.result c.judge_shape-answer.ensures c.is_err.ensures.value
    c.if-is_err.true

pub loop-k-init : goal.loop-k-init
unfolding list_of
loop-k-init c = rows_none one_bit c.args.bytes c.args.page.now

pub overflow_mul-bytes : goal.overflow_mul-bytes
overflow_mul-bytes c = omega (arith, in-limits _ _ _ c.judge_shape-answer.ensures c.is_err.ensures.value c.if-is_err.false)

pub row_of-requires : goal.row_of-requires
row_of-requires c = omega (arith, in-limits _ _ _ c.judge_shape-answer.ensures c.is_err.ensures.value c.if-is_err.false)

pub bounds-rows-k : goal.bounds-rows-k
bounds-rows-k c = omega (arith, in-limits _ _ _ c.judge_shape-answer.ensures c.is_err.ensures.value c.if-is_err.false)

pub loop-k-preserved : goal.loop-k-preserved
loop-k-preserved c =
    let small = in-limits _ _ _ c.judge_shape-answer.ensures c.is_err.ensures.value c.if-is_err.false in
    let s = shape-in-order _ _ _ (in-shape _ _ _ c.judge_shape-answer.ensures c.is_err.ensures.value c.if-is_err.false) in
    let t = strip-there c.args.bytes c.args.strips c.loop-k.k c.args.page.now s.bytes_in s.page_is
    c.loop-k-test.true in
    let r =
    c.row_of.ensures ∙ ap (λ (x : List ℕ). row_of (16 * c.args.bytes) (level x)) (c.strip.ensures.result_value ∙ t)
    ∙ ap (λ (n : ℕ). row_of n (level (part (byte_count one_bit c.args.bytes) c.loop-k.k c.args.page.now))) (sym (one_bit-cells c.args.bytes))
    ∙ strip-row one_bit c.args.bytes c.loop-k.k c.args.page.now (one_bit-whole c.args.bytes).cells_fill in
    rw c.loop-k.invariant
    (rows_more one_bit c.args.bytes c.loop-k.k c.args.page.now c.row_of.result (omega (arith, small)) r)

pub returns : goal.returns
returns c =
    let e : c.loop-k.k ≡ c.args.strips = omega arith in
    census-done c.args.bytes c.args.strips c.args.page.now _ c.judge_shape-answer.ensures c.loop-k.rows
    (in-shape _ _ _ c.judge_shape-answer.ensures c.is_err.ensures.value c.if-is_err.false)
    (c.loop-k.invariant ∙ ap (λ (n : ℕ). list_of 64 (row_at one_bit c.args.bytes n c.args.page.now)) e)
