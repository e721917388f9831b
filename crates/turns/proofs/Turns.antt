-- What a line does. The values that a line 2 gives are in order, so that a write of data in form is never refused for its input; and a line
-- of more than 8,192 bytes is in no form, so that the program need not keep more of it.
--   Begun, answers-0-or-7                         once the writes have begun, the answer of a row is 0 or 7
--   long-line                                     A LONG LINE is refusal 6
--   values-broken, values-given, values-refused   line 2, by what the functions answer of its form and of its values
use mathlib.Core.Path.{◌≡◌, refl, sym, ◌∙◌, ap}
use mathlib.Core.Bool.{Bool, true, false, cond, and-false}
use mathlib.Core.List.{List, [], ◌∷◌, ◌++◌}
use mathlib.Core.Logic.{◌⊎◌, inl, inr}
use mathlib.Core.Option.{Option, none, some}
use Prim.Native.Nat.{ℕ, ◌*◌, ◌≤◌, ◌<◌}
use native.Mathlib.Omega.{arith}
use native.Mathlib.Nat.{mul_assoc}
use lib.ListN.{length, length-append}
use borrow.Author.Tests.{eq-eqb}
use Rattle.cells.specs.Climbs.{house}
use Rattle.codes.specs.Layouts.{one_bit, byte_count}
use Rattle.search.specs.Best.{Solution}
use Rattle.refusals.specs.declared.Refusal.{Refusal}
use Rattle.std.specs.Prelude.{Result, Ok, Err, ⊤}
use Rattle.refusals.specs.Refusals.{sizes_ground, page_ground, datas_ground, lengths_ground, ground, write_ground, refusal_number, text_number}
use Rattle.refusals.specs.Refusals.{completion_of}
use Rattle.codes.proofs.Layouts.{one_bit-bytes}
use Rattle.demand.specs.Computed.{page_write, spent_strip}
use Rattle.page_promises.specs.Writes.{call_answer, job_answer, job_of, answer_with}
use Rattle.page_answers.specs.Answers.{number_of}
use Rattle.refusals.proofs.Refusals.{house-ground, done_none, refused-some}
use Rattle.text.specs.declared.Values.{Values}
use Rattle.std.specs.Prelude as std
use Rattle.text.specs.Text.{decimal, names_text, data_text, values_text}
use Rattle.cells.specs.Places.{same_list}
use Rattle.text.specs.Lines.{values_of, form_of}
use Rattle.text.specs.Hex.{pairs, is_data, content_of}
use Rattle.text.proofs.Text.{size-most}
use Rattle.text.proofs.Lines.{same-lengths, text-of-values}
use Rattle.text.proofs.Hex.{data-odd, text-of-data}
use Rattle.turn_rows.specs.Rows.{size_of, values_answer}
use Rattle.turns.specs.Turns.{Progress, Turned, halt, goes, names_turn, judged_turn, form_turn, values_turn, data_turn, write_turn}
use Rattle.turns.specs.Turns.{line_turn}
use Rattle.turn_rows.proofs.Rows.{size-given, size-bound}

-- LINE 2 by what the functions answer of its form and of its values
form-given : (o : Option Values) {v : Values} → form_of o ≡ std.Some v → o ≡ some v
form-given none e = let z : ◌≡◌ {A = ℕ} 0 1 = cc in absurd (omega arith)
form-given (some w) e = cc

form-broken : (o : Option Values) → form_of o ≡ std.None → o ≡ none
form-broken none e = refl
form-broken (some w) e = let z : ◌≡◌ {A = ℕ} 0 1 = cc in absurd (omega arith)

module _ (p : Progress) (line : List ℕ) where
  pub values-broken : form_of (values_of line) ≡ std.None → values_turn p line ≡ halt text_number p
  unfolding values_turn
  values-broken b = rw (form-broken (values_of line) b)

  module _ {v : Values} {k : Result ⊤ Refusal} (b : form_of (values_of line) ≡ std.Some v)
      (j : k ≡ completion_of (sizes_ground v.code v.bytes v.strips)) where
    pub values-given : k ≡ Ok tt → values_turn p line ≡ goes p [] v p.page
    unfolding values_turn
    values-given d = rw (form-given (values_of line) b, done_none (sizes_ground v.code v.bytes v.strips) (sym j ∙ d))

    pub values-refused : {r : Refusal} → k ≡ Err r → values_turn p line ≡ halt (refusal_number r) p
    unfolding values_turn
    values-refused d = rw (form-given (values_of line) b, refused-some (sizes_ground v.code v.bytes v.strips) (sym j ∙ d))

-- the run goes on with values that no ground refuses
judged-goes : (p : Progress) (w v : Values) (g : Option Refusal) → judged_turn p w g ≡ goes p [] v p.page → (g ≡ none) × (w ≡ v)
judged-goes p w v none e = (refl, ap (λ (t : Turned). t.after.values) e)
judged-goes p w v (some r) e = let z : ◌≡◌ {A = ℕ} 0 1 = ap (λ (t : Turned). cond t.on 1 0) e in absurd (omega arith)

form-goes : (p : Progress) (v : Values) (o : Option Values) → form_turn p o ≡ goes p [] v p.page
    → sizes_ground v.code v.bytes v.strips ≡ none
form-goes p v none e = let z : ◌≡◌ {A = ℕ} 0 1 = ap (λ (t : Turned). cond t.on 1 0) e in absurd (omega arith)
form-goes p v (some w) e = let j = judged-goes p w v (sizes_ground w.code w.bytes w.strips) e in rw j.1 at j.0

-- A WRITE OF DATA IN FORM HAS ITS INPUT IN ORDER
write-in-order : (v : Values) (page content : ℕ) → sizes_ground v.code v.bytes v.strips ≡ none
    → page ≡ byte_count one_bit (size_of v) → content ≡ size_of v → write_ground house v.code v.bytes v.strips page content ≡ none
unfolding ground lengths_ground page_ground datas_ground
write-in-order v page content e p c =
    let s = size-given v e in
    let ep : page ≡ 6 * v.bytes * v.strips = p ∙ one_bit-bytes (size_of v) ∙ rw (s, mul_assoc) in
    rw (
      house-ground v.code v.bytes v.strips page content,
      e,
      one_bit-bytes v.bytes,
      eq-eqb page (6 * v.bytes * v.strips) ep,
      eq-eqb content (v.bytes * v.strips) (c ∙ s),
    )

-- an answer without a ground is 0 or 7
zero-or-seven : (w : Option Solution) (k : ℕ) → (number_of (call_answer none w k) ≡ 0) ⊎ (number_of (call_answer none w k) ≡ 7)
zero-or-seven (some a) k = inl refl
zero-or-seven none k = inr refl

-- ONCE THE WRITES HAVE BEGUN the values are in order, and the page has their size
pub record Begun (p : Progress) : Type 0 where
  pub late : 3 < p.number
  pub judged : sizes_ground p.values.code p.values.bytes p.values.strips ≡ none
  pub sized : length p.page ≡ byte_count one_bit (size_of p.values)

-- 'one row a write: its number from 1, 0 or 7'
pub answers-0-or-7 : (p : Progress) (text : List ℕ) → Begun p → is_data (size_of p.values) text ≡ true
    → (number_of (values_answer p.values p.page (pairs text)) ≡ 0) ⊎ (number_of (values_answer p.values p.page (pairs text)) ≡ 7)
unfolding answer_with job_answer content_of
answers-0-or-7 p text b t =
    let v = p.values in
    let d = text-of-data (size_of v) text (pairs text) (rw t) in
    rw (write-in-order v (length p.page) (length (pairs text)) b.judged b.sized d.1)
    (zero-or-seven (page_write (job_of house v.code v.bytes v.strips p.page (pairs text)))
    (spent_strip (job_of house v.code v.bytes v.strips p.page (pairs text))))

-- the text of values has at most 17 bytes
short-values : (v : Values) → v.code < 100000 → v.bytes < 100000 → v.strips < 100000 → length (values_text v) ≤ 17
unfolding values_text
short-values v h h2 h3 =
    let c = size-most 4 v.code h in
    let b = size-most 4 v.bytes h2 in
    let s = size-most 4 v.strips h3 in
    let e = length-append (decimal v.code) (32 ∷ (decimal v.bytes ++ 32 ∷ decimal v.strips)) in
    let f = length-append (decimal v.bytes) (32 ∷ decimal v.strips) in
    omega arith

-- a test that decides nothing
cond_same : (t : Bool) (x : Turned) → cond t x x ≡ x
cond_same true x = refl
cond_same false x = refl

module _ (p : Progress) (line : List ℕ) (long : 8192 < length line) where
  -- it is no text of lines 1 to 3
  unlike : (text : List ℕ) → length text ≤ 8192 → same_list line text ≡ false
  unlike text h = same-lengths line text (λ e. let z : ⊥ = omega arith in z)

  no-values : (o : Option Values) → values_of line ≡ o → form_turn p o ≡ halt text_number p
  no-values none e = refl
  no-values (some v) e =
      let t = text-of-values line v e in
      let s = short-values v t.1 t.2 t.3 in
      let z : ⊥ = omega (arith, ap length t.0) in
      absurd z

  -- and no data of at most 4,096 bytes
  no-data : is_data (size_of p.values) line ≡ false
  no-data = let b = size-bound p.values in data-odd (size_of p.values) line (λ e. let z : ⊥ = omega arith in z)

  -- A LONG LINE: whichever of the four it is, it halts
  pub long-line : line_turn p line ≡ halt text_number p
  unfolding line_turn write_turn data_turn values_turn names_turn
  long-line =
      rw (no-data, and-false, unlike data_text (omega arith), no-values (values_of line) refl, unlike names_text (omega arith))
      (simp cond_same)
