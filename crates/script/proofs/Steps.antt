-- A step of the program, by its values and buffers.
--   end-stopped, end_whole, end-missing, end-open   the end of the input
--   blank-ready                                     blank buffers are in order
--   stopped-step, part_step, line_step, line-ready  bytes after the run has stopped, bytes within a line, and bytes up to its end
use mathlib.Core.Path.{◌≡◌, refl, sym, ◌∙◌, ap, subst}
use mathlib.Core.Bool.{Bool, true, false, cond, ◌&&◌}
use mathlib.Core.List.{List, [], ◌∷◌, ◌++◌}
use mathlib.Core.Option.{Option, none, some}
use Prim.Native.Nat.{ℕ, ◌+◌, ◌<◌, ◌≤◌}
use native.Mathlib.Omega.{arith}
use native.Mathlib.Numerals.{add-one}
use lib.Dec.{ltb, leb, eqb}
use lib.ListN.{length, take, get_or, length-replicate}
use lib.Seq.{length-take-le, take-suc, get_or-take}
use borrow.Author.Tests.{lt-ltb, le-ltb}
use Rattle.cells.specs.Places.{same_list}
use Rattle.refusals.specs.declared.Refusal.{Refusal}
use Rattle.refusals.specs.Refusals.{sizes_ground, text_number}
use Rattle.text.specs.declared.Values.{Values}
use Rattle.text.specs.Text.{names_text, data_text, fault_text}
use Rattle.text.specs.Lines.{values_of}
use Rattle.text.specs.Hex.{is_data}
use Rattle.turn_rows.specs.Rows.{size_of}
use Rattle.turns.specs.Turns.{Progress, halt, goes, names_turn, judged_turn, form_turn, values_turn, data_turn, write_turn, line_turn, Told}
use Rattle.script.specs.Runs.{lines_from, run_from}
use Rattle.turns.specs.declared.Run.{Run}
use Rattle.turns.specs.declared.Turn.{Turn}
use Rattle.script.specs.Positions.{Position, prints_from}
use Rattle.script.specs.Buffers.{kept_bytes, position_of, Ready, Blank, LineEnd, KeptPart, Stepped}
use Rattle.turns.specs.Buffers.{most_page, Holds}
use Rattle.script.proofs.Positions.{stopped-silent, stopped-takes, part-takes, line-takes}
use Rattle.turns.proofs.Held.{page-none, holds-none}

-- THE END OF THE INPUT, by the program's values: nothing is printed once the run has stopped
module _ (r : Run) (line page : List ℕ) where
  pub end-stopped : r.on ≡ false → prints_from (position_of r line page) [] ≡ []
  end-stopped e = stopped-silent (position_of r line page) [] e

  module _ (e : r.on ≡ true) where
    -- nor where lines 1 to 3 are there and no other is begun
    pub end_whole : r.used ≡ 0 → 3 < r.number → prints_from (position_of r line page) [] ≡ []
    unfolding prints_from lines_from run_from
    end_whole u h = rw (e, u, lt-ltb 3 r.number h)

    -- a line is missing
    pub end-missing : r.used ≡ 0 → r.number ≤ 3 → prints_from (position_of r line page) [] ≡ fault_text text_number r.number
    unfolding prints_from lines_from run_from
    end-missing u h = rw (e, u, le-ltb 3 r.number h)

    -- or not ended
    pub end-open : r.used ≤ length line → (r.used ≡ 0 → ⊥) → prints_from (position_of r line page) [] ≡ fault_text text_number r.number
    unfolding prints_from lines_from run_from
    end-open h u = rw e (by (take r.used line) (rw (length-take-le r.used line h) (omega arith)))
      where
        by : (part : List ℕ) → 0 < length part
            → run_from (position_of r line page).progress (lines_from part []) ≡ fault_text text_number r.number
        by [] g = absurd (let z : ⊥ = omega arith in z)
        by (a ∷ part) g = refl

-- BLANK BUFFERS are ready for a run from its start
pub blank-ready : (r : Run) (line page content : List ℕ) → Blank line page content → r.number ≡ 1 → r.used ≡ 0 → Ready r line page content
blank-ready r line page content k n u = record {
  line_long = k.line_long;
  page_long = ap length k.page_is ∙ length-replicate {A = ℕ} most_page 0;
  data_long = k.data_long;
  used_most = omega arith;
  number_some = omega arith;
  holds =
      holds-none page k.page_is (position_of r line page).progress (omega arith)
      (rw (page-none r.number r.values (omega arith)));
}

-- THE LINE'S NUMBER never falls
module _ (p : Progress) (line : List ℕ) where
  either-forward : (t : Bool) (text : List ℕ) (v : Values) (page : List ℕ)
      → p.number ≤ (cond t (goes p text v page) (halt text_number p)).after.number
  either-forward true text v page = omega arith
  either-forward false text v page = omega arith

  judged-forward : (w : Values) (g : Option Refusal) → p.number ≤ (judged_turn p w g).after.number
  judged-forward w none = omega arith
  judged-forward w (some r) = omega arith

  form-forward : (o : Option Values) → p.number ≤ (form_turn p o).after.number
  form-forward none = omega arith
  form-forward (some w) = judged-forward w (sizes_ground w.code w.bytes w.strips)

  turn-forward : p.number ≤ (line_turn p line).after.number
  unfolding line_turn write_turn data_turn values_turn names_turn
  turn-forward = by (ltb 3 p.number) (eqb p.number 3) (eqb p.number 2)
    where
      by : (a b c : Bool) → p.number
          ≤ (cond a (write_turn (size_of p.values) p line) (cond b (data_turn p line) (cond c (values_turn p line) (names_turn p line)))).after.number
      by true b c = either-forward (leb p.number 1003 && is_data (size_of p.values) line) _ _ _
      by false true c = either-forward (same_list line data_text) _ _ _
      by false false true = form-forward (values_of line)
      by false false false = either-forward (same_list line names_text) _ _ _

-- A STEP OF THE PROGRAM. Nothing is printed, and the run is where the bytes lead
module _ (r : Run) (bytes line page content : List ℕ) (k : Ready r line page content) where
  -- the run has stopped, and takes whatever comes
  pub stopped-step : {text : List ℕ} → text ≡ [] → r.on ≡ false →
      let s = position_of r line page in
      Stepped s bytes (record { run = r; printed = text; taken = length bytes }) s
  stopped-step n e = record {
    near = rw n (omega arith);
    taken_most = omega arith;
    taken_some = λ h. h;
    takes = rw n (stopped-takes (position_of r line page) (take (length bytes) bytes) e);
  }

  module _ (on : r.on ≡ true) {after : List ℕ} {used end : ℕ} (g : KeptPart (take r.used line ++ take end bytes) line used after)
      (l : LineEnd bytes end) where
    -- the bytes so far, as the program keeps them
    part-kept : take used after ≡ take kept_bytes (take r.used line ++ take end bytes)
    part-kept = rw k.line_long at g.part_is

    -- none of those that are taken ends the line
    unended : (i : ℕ) → i < length (take end bytes) → get_or (take end bytes) i 0 ≡ 10 → ⊥
    unended i h e =
        let m = length-take-le end bytes l.inside in
        let f : i < end = omega arith in
        l.none_before i f (sym (get_or-take end bytes i 0 f) ∙ e)

    -- all bytes belong to the line
    pub part_step : {text : List ℕ} → text ≡ [] → end ≡ length bytes →
        let next : Run = record { values = r.values; number = r.number; used = used; on = r.on } in
        Stepped (position_of r line page) bytes (record { run = next; printed = text; taken = end }) (position_of next after page)
        × Ready next after page content
    part_step n e = (
      record {
        near = rw n (omega arith);
        taken_most = l.inside;
        taken_some = λ h. omega arith;
        takes = rw (n, on, part-kept) (part-takes (position_of r line page).progress (take r.used line) (take end bytes) unended);
      },
      record {
        line_long = g.size ∙ k.line_long;
        page_long = k.page_long;
        data_long = k.data_long;
        used_most = let m = g.inside in omega (arith, g.size, k.line_long);
        number_some = k.number_some;
        holds = k.holds;
      },
    )

    -- the line ends within the bytes, and its turn says what is printed
    module _ (m : end ≡ length bytes → ⊥) {t : Turn} {leaf : List ℕ}
        (told : Told (line_turn (position_of r line page).progress (take used after)) t)
        (holds : Holds (line_turn (position_of r line page).progress (take used after)).after leaf) where
      -- where the run is then
      reached : position_of t.run after leaf ≡
          let u = line_turn (position_of r line page).progress (take used after) in
          record { progress = u.after; begun = []; on = u.on }
      reached = rw (told.run_is, holds.front)

      ended_by : take (end + 1) bytes ≡ take end bytes ++ 10 ∷ []
      ended_by =
          let h : end < length bytes = let i = l.inside in omega arith in
          rw (add-one end, take-suc bytes end 0 h, l.there h)

      pub line_step : Stepped (position_of r line page) bytes (record { run = t.run; printed = t.printed; taken = end + 1 })
          (position_of t.run after leaf)
      line_step = record {
        near = told.near;
        taken_most = let i = l.inside in omega arith;
        taken_some = λ h. omega arith;
        takes = rw (ended_by, reached, told.text_is, on, part-kept)
            (line-takes (position_of r line page).progress (take r.used line) (take end bytes) unended);
      }

      pub line-ready : length leaf ≡ most_page → {free : List ℕ} → length free ≡ 4096 → Ready t.run after leaf free
      line-ready p d = record {
        line_long = g.size ∙ k.line_long;
        page_long = p;
        data_long = d;
        used_most = rw told.run_is (omega arith);
        number_some =
            rw told.run_is (omega (arith, k.number_some, turn-forward (position_of r line page).progress (take used after)));
        holds = subst (λ (s : Position). Holds s.progress leaf) (sym reached) holds;
      }
