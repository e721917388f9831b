-- Bytes of the input that are taken, one part after the other: what is printed of them is what the run prints.
--   run-starts                 THE RUN is what is printed from its start
--   parts_whole, run-whole     AN INPUT IN PARTS, however it is cut, prints what it prints whole
--   leads-none, leads-more     bytes, and then others
--   stopped-silent, stopped-takes, part-takes, line-takes
--                              bytes after the run has stopped, bytes within a line, and bytes up to its end
use mathlib.Core.Path.{◌≡◌, refl, sym, ◌∙◌, ap}
use mathlib.Core.Bool.{Bool, true, false, cond}
use mathlib.Core.List.{List, [], ◌∷◌, ◌++◌, append_assoc, append-nil}
use mathlib.Core.Option.{some}
use Prim.Native.Nat.{ℕ, suc, ◌+◌, ◌<◌}
use native.Mathlib.Omega.{arith}
use lib.Dec.{leb, eqb}
use lib.ListN.{length, take, drop, get_or, length-append}
use lib.Seq.{take_all, length-take-le, take-add}
use borrow.Author.Tests.{leb-true, leb-false, ne_eqb}
use Rattle.turns.specs.Turns.{Progress, line_turn}
use Rattle.script.specs.Runs.{lines_from, lines_of, run_from, run_of}
use Rattle.script.specs.Positions.{Position, start, prints_from, Takes, Leads, InParts, ended, stopped, taken, whole_of}
use Rattle.script.specs.Buffers.{kept_bytes}
use Rattle.turns.proofs.Turns.{long-line}

-- THE RUN is what is printed from its start
pub run-starts : (input : List ℕ) → prints_from start input ≡ run_of input
unfolding prints_from run_of lines_of
run-starts input = refl

-- once the run has stopped it prints nothing more
pub stopped-silent : (s : Position) (input : List ℕ) → s.on ≡ false → prints_from s input ≡ []
unfolding prints_from
stopped-silent s input e = rw e

-- HOWEVER THE INPUT IS CUT into parts, what is printed of them one after the other is what is printed of the whole
pub parts_whole : {s : Position} {parts : List (List ℕ)} {text : List ℕ} → InParts s parts text → text ≡ prints_from s (whole_of parts)
unfolding whole_of
parts_whole (ended e) = e
parts_whole {s} {parts} (stopped e) = sym (stopped-silent s (whole_of parts) e)
parts_whole (taken {text = text} {parts = parts} t r) = ap (λ (l : List ℕ). text ++ l) (parts_whole r) ∙ sym (t.whole (whole_of parts))

-- so from the start it is THE RUN of the whole input
pub run-whole : {parts : List (List ℕ)} {text : List ℕ} → InParts start parts text → text ≡ run_of (whole_of parts)
run-whole {parts} r = parts_whole r ∙ run-starts (whole_of parts)

-- bytes, and then others
pub leads-none : (s : Position) → Leads s [] s
leads-none s = record { text = []; takes = record { whole = λ rest. refl } }

pub leads-more : {s t u : Position} (bytes : List ℕ) (i n : ℕ) {text : List ℕ} → Leads s (take i bytes) t
    → Takes t (take n (drop i bytes)) text u → Leads s (take (i + n) bytes) u
leads-more {t = t} bytes i n {text} l k = record {
  text = l.text ++ text;
  takes = record {
    whole = λ rest.
        rw (take-add i n bytes, append_assoc (take i bytes) (take n (drop i bytes)) rest, append_assoc l.text text (prints_from _ rest))
        (l.takes.whole (take n (drop i bytes) ++ rest) ∙ ap (λ (x : List ℕ). l.text ++ x) (k.whole rest));
  };
}

-- BYTES AFTER THE RUN HAS STOPPED print nothing
pub stopped-takes : (s : Position) (bytes : List ℕ) → s.on ≡ false → Takes s bytes [] s
stopped-takes s bytes e = record { whole = λ rest. stopped-silent s (bytes ++ rest) e ∙ sym (stopped-silent s rest e) }

-- bytes within a line, none of which ends it, are bytes of the line
lines-part : (bytes part rest : List ℕ) → ((k : ℕ) → k < length bytes → get_or bytes k 0 ≡ 10 → ⊥)
    → lines_from part (bytes ++ rest) ≡ lines_from (part ++ bytes) rest
unfolding lines_from
lines-part [] part rest h = rw (append-nil part)
lines-part (b ∷ bytes) part rest h =
    rw (ne_eqb b 10 (h 0 (omega arith)))
    (lines-part bytes (part ++ b ∷ []) rest (λ k l. h (suc k) (omega arith)) ∙ rw (append_assoc part (b ∷ []) bytes))

module _ (p : Progress) where
  -- two lines so far that are both longer than any line in form lead to the same, whatever they are
  long-alike : (rest a b : List ℕ) → 8192 < length a → 8192 < length b → run_from p (lines_from a rest) ≡ run_from p (lines_from b rest)
  unfolding lines_from run_from
  long-alike [] [] b h g = absurd (let z : ⊥ = omega arith in z)
  long-alike [] (x ∷ a) [] h g = absurd (let z : ⊥ = omega arith in z)
  long-alike [] (x ∷ a) (y ∷ b) h g = refl
  long-alike (c ∷ rest) a b h g =
      by (eqb c 10)
      (long-alike rest (a ++ c ∷ []) (b ++ c ∷ []) (rw (length-append a (c ∷ [])) (omega arith))
      (rw (length-append b (c ∷ [])) (omega arith)))
    where
      by : (t : Bool) → run_from p (lines_from (a ++ c ∷ []) rest) ≡ run_from p (lines_from (b ++ c ∷ []) rest)
          → run_from p (cond t (some a ∷ lines_from [] rest) (lines_from (a ++ c ∷ []) rest))
          ≡ run_from p (cond t (some b ∷ lines_from [] rest) (lines_from (b ++ c ∷ []) rest))
      by true e = rw (long-line p a h, long-line p b g)
      by false e = e

  -- so as many bytes of a line as the program keeps are enough
  kept-enough : (part rest : List ℕ) → run_from p (lines_from part rest) ≡ run_from p (lines_from (take kept_bytes part) rest)
  kept-enough part rest = by (leb (length part) kept_bytes) refl
    where
      by : (t : Bool) → leb (length part) kept_bytes ≡ t → run_from p (lines_from part rest) ≡ run_from p (lines_from (take kept_bytes part) rest)
      by true e = rw (take_all kept_bytes part (leb-true (length part) kept_bytes e))
      by false e =
          let l : kept_bytes < length part = leb-false (length part) kept_bytes e in
          long-alike rest part (take kept_bytes part) (omega arith) (rw (length-take-le kept_bytes part (omega arith)) (omega arith))

  -- BYTES WITHIN A LINE print nothing
  pub part-takes : (part bytes : List ℕ) → ((k : ℕ) → k < length bytes → get_or bytes k 0 ≡ 10 → ⊥)
      → Takes (record { progress = p; begun = part; on = true }) bytes []
      (record { progress = p; begun = take kept_bytes (part ++ bytes); on = true })
  unfolding prints_from
  part-takes part bytes h =
      record { whole = λ rest. ap (run_from p) (lines-part bytes part rest h) ∙ kept-enough (part ++ bytes) rest }

  -- BYTES UP TO THE END OF A LINE print what the line's turn says
  pub line-takes : (part bytes : List ℕ) → ((k : ℕ) → k < length bytes → get_or bytes k 0 ≡ 10 → ⊥) →
      let t = line_turn p (take kept_bytes (part ++ bytes)) in
      Takes (record { progress = p; begun = part; on = true }) (bytes ++ 10 ∷ []) t.text
      (record { progress = t.after; begun = []; on = t.on })
  unfolding prints_from lines_from run_from
  line-takes part bytes h =
      record { whole = λ rest. rw (append_assoc bytes (10 ∷ []) rest) ((part-takes part bytes h).whole (10 ∷ rest)) }
