-- The page in its buffer, and the turn of a line that the buffer is lent to.
--   page-none                               there is no page before line 4
--   holds-zeros, holds-none, holds-erased   a buffer of zeros holds no page, or an erased one
--   names-told, values-told, data-told      lines 1 to 3 by their numbers, and the buffer after them
--   write-told, write-holds                 a data line, and the buffer after it
use mathlib.Core.Path.{◌≡◌, refl, sym, ◌∙◌}
use mathlib.Core.Bool.{Bool, true, false, cond, ◌&&◌}
use mathlib.Core.List.{List, [], ◌++◌}
use mathlib.Core.Option.{Option, none, some}
use Prim.Native.Nat.{ℕ, ◌+◌, ◌-◌, ◌*◌, ◌<◌, ◌≤◌}
use native.Mathlib.Omega.{arith}
use lib.Dec.{leb}
use lib.ListN.{length, take, drop, replicate, length-replicate, replicate-append-replicate}
use lib.Seq.{take_at, drop_at}
use borrow.Author.Tests.{lt-ltb, le-ltb}
use Rattle.codes.specs.Layouts.{one_bit, byte_count}
use Rattle.codes.proofs.Layouts.{one_bit-bytes}
use Rattle.cells.specs.Places.{same_list}
use Rattle.refusals.specs.declared.Refusal.{Refusal}
use Rattle.refusals.specs.Refusals.{sizes_ground, text_number}
use Rattle.text.specs.declared.Values.{Values}
use Rattle.text.specs.Text.{names_text, data_text, head_text}
use Rattle.text.specs.Lines.{values_of}
use Rattle.text.specs.Hex.{is_data, pairs}
use Rattle.turn_rows.specs.Rows.{size_of, values_page, write_row}
use Rattle.turns.specs.Turns.{Progress, Turned, at_line, halt, goes, names_turn, judged_turn, form_turn, values_turn, data_turn, write_turn}
use Rattle.turns.specs.Turns.{line_turn, Told, ToldPage}
use Rattle.turns.specs.declared.Turn.{Turn}
use Rattle.turns.specs.Buffers.{most_page, page_size, Holds}
use Rattle.turn_rows.proofs.Rows.{size-bound}

-- THE PAGE IN ITS BUFFER. There is none before line 4
pub page-none : (number : ℕ) (v : Values) → number ≤ 3 → page_size number v ≡ 0
unfolding page_size
page-none number v h = rw (le-ltb 3 number h)

page-some : (number : ℕ) (v : Values) → 3 < number → page_size number v ≡ byte_count one_bit (size_of v)
unfolding page_size
page-some number v h = rw (lt-ltb 3 number h)

-- a buffer of zeros, of which some are the page
zeros-parted : (n : ℕ) → n ≤ most_page → replicate {A = ℕ} most_page 0 ≡ replicate n 0 ++ replicate (most_page - n) 0
zeros-parted n h = let e : n + (most_page - n) ≡ most_page = omega arith in sym (replicate-append-replicate n (most_page - n) 0 ∙ rw e)

module _ (page : List ℕ) where
  -- before line 4 the buffer is all zeros
  pub holds-zeros : (p : Progress) → p.number ≤ 3 → Holds p page → page ≡ replicate most_page 0
  holds-zeros p h k = rw (page-none p.number p.values h) at k.blank

  module _ (z : page ≡ replicate most_page 0) where
    -- and so it holds no page
    pub holds-none : (p : Progress) → p.number ≤ 3 → p.page ≡ [] → Holds p page
    holds-none p h e = record {
      front = rw (page-none p.number p.values h) (sym e);
      blank = rw (page-none p.number p.values h) z;
    }

    -- or an erased one
    pub holds-erased : (v : Values) → Holds (at_line 4 v (replicate (byte_count one_bit (size_of v)) 0)) page
    holds-erased v =
        let n = byte_count one_bit (size_of v) in
        let h : n ≤ most_page = omega (arith, one_bit-bytes (size_of v), size-bound v) in
        let e = z ∙ zeros-parted n h in
        record {
          front = rw (page-some 4 v (omega arith), e) (take_at (replicate n 0) (replicate (most_page - n) 0) n (length-replicate n 0));
          blank = rw (page-some 4 v (omega arith), e) (drop_at (replicate n 0) (replicate (most_page - n) 0) n (length-replicate n 0));
        }

-- after a data line the page is another, of the same size, in the same place
module _ (p q : Progress) (n : ℕ) (page after : List ℕ) (v : q.values ≡ p.values) (h : 3 < p.number) (g : 3 < q.number)
    (size : byte_count one_bit (size_of p.values) ≡ n) where
  holds_more : Holds p page → length after ≡ n → after ≡ q.page → Holds q (after ++ drop n page)
  holds_more k l e = record {
    front = rw (page-some q.number q.values g, v, size) (take_at after (drop n page) n l ∙ e);
    blank = rw (page-some q.number q.values g, v, size)
        (drop_at after (drop n page) n l ∙ rw (page-some p.number p.values h, size) at k.blank);
  }

-- WHERE A TURN LEAVES THE RUN. Lines 1 and 2 come to no page
pub names-after : (v : Values) (line : List ℕ) → let q = (names_turn (at_line 1 v []) line).after in (q.number ≤ 3) × (q.page ≡ [])
unfolding names_turn
names-after v line = by (same_list line names_text)
  where
    by : (t : Bool) →
        let q = (cond t (goes (at_line 1 v []) [] v []) (halt text_number (at_line 1 v []))).after in
        (q.number ≤ 3) × (q.page ≡ [])
    by true = (omega arith, refl)
    by false = (omega arith, refl)

pub values-after : (v : Values) (line : List ℕ) → let q = (values_turn (at_line 2 v []) line).after in (q.number ≤ 3) × (q.page ≡ [])
unfolding values_turn
values-after v line = by (values_of line)
  where
    judged : (w : Values) (g : Option Refusal) → let q = (judged_turn (at_line 2 v []) w g).after in (q.number ≤ 3) × (q.page ≡ [])
    judged w none = (omega arith, refl)
    judged w (some r) = (omega arith, refl)

    by : (o : Option Values) → let q = (form_turn (at_line 2 v []) o).after in (q.number ≤ 3) × (q.page ≡ [])
    by none = (omega arith, refl)
    by (some w) = judged w (sizes_ground w.code w.bytes w.strips)

-- line 3 comes to an erased page, or to none
pub data-after : (v : Values) (line page : List ℕ) → page ≡ replicate most_page 0 → Holds (data_turn (at_line 3 v []) line).after page
unfolding data_turn
data-after v line page z = by (same_list line data_text)
  where
    by : (t : Bool)
        → Holds (cond t (goes (at_line 3 v []) head_text v (replicate (byte_count one_bit (size_of v)) 0))
        (halt text_number (at_line 3 v []))).after page
    by true = holds-erased page z v
    by false = holds-none page z (at_line 3 v []) (omega arith) refl

-- a data line keeps the values
pub write-after : (n : ℕ) (p : Progress) (line : List ℕ) → 3 < p.number →
    let q = (write_turn n p line).after in
    (q.values ≡ p.values) × (3 < q.number)
unfolding write_turn
write-after n p line h = by (leb p.number 1003 && is_data n line)
  where
    by : (t : Bool) →
        let q = (cond t (goes p (write_row (p.number - 3) p.values p.page (pairs line)) p.values
        (values_page p.values p.page (pairs line))) (halt text_number p)).after in
        (q.values ≡ p.values) × (3 < q.number)
    by true = (refl, omega arith)
    by false = (refl, h)

-- THE TURN OF A DATA LINE, by the part of the buffer that is the page
module _ (number n : ℕ) (v : Values) (line page : List ℕ) (h : 3 < number) (s : n ≡ size_of v) where
  -- how far the run is, as the program hands it on
  handed : Progress
  handed = at_line number v (take (6 * n) page)

  turn-write : write_turn n handed line ≡ line_turn (at_line number v (take (page_size number v) page)) line
  unfolding line_turn handed
  turn-write = rw (page-some number v h, one_bit-bytes (size_of v), lt-ltb 3 number h, s)

  module _ {r : Turn} {after : List ℕ} {m : ℕ} (e : m ≡ n)
      (t : ToldPage (write_turn m (at_line number v (take (6 * n) page)) line) r after) where
    pub write-told : Told (line_turn (at_line number v (take (page_size number v) page)) line) r
    unfolding handed
    write-told = rw (← turn-write) (rw e at t.told)

    pub write-holds : Holds (at_line number v (take (page_size number v) page)) page → length after ≡ 6 * n
        → Holds (line_turn (at_line number v (take (page_size number v) page)) line).after (after ++ drop (6 * n) page)
    unfolding handed
    write-holds k l =
        let w = write-after n handed line h in
        rw (← turn-write)
        (holds_more (at_line number v (take (page_size number v) page)) (write_turn n handed line).after (6 * n) page after w.0 h w.1
        (one_bit-bytes (size_of v) ∙ rw s) k l (rw e at t.page_is))

-- THE TURNS OF LINES 1 TO 3, by their numbers
module _ (number : ℕ) (v : Values) (line page : List ℕ) {r : Turn}
    (k : Holds (at_line number v (take (page_size number v) page)) page) where
  -- a turn that comes to no page, by any number before that of a data line
  none_told : (u : Turned) → number ≤ 3 → line_turn (at_line number v (take (page_size number v) page)) line ≡ u
      → (u.after.number ≤ 3) × (u.after.page ≡ []) → Told u r
      → Told (line_turn (at_line number v (take (page_size number v) page)) line) r
      × Holds (line_turn (at_line number v (take (page_size number v) page)) line).after page
  none_told u h e a t =
      let z = holds-zeros page (at_line number v (take (page_size number v) page)) h k in
      rw e (t, holds-none page z u.after a.0 a.1)

  pub names-told : number ≡ 1 → Told (names_turn (at_line 1 v []) line) r
      → Told (line_turn (at_line number v (take (page_size number v) page)) line) r
      × Holds (line_turn (at_line number v (take (page_size number v) page)) line).after page
  unfolding line_turn page_size
  names-told e t = none_told (names_turn (at_line 1 v []) line) (omega arith) (rw e) (names-after v line) t

  pub values-told : number ≡ 2 → Told (values_turn (at_line 2 v []) line) r
      → Told (line_turn (at_line number v (take (page_size number v) page)) line) r
      × Holds (line_turn (at_line number v (take (page_size number v) page)) line).after page
  unfolding line_turn page_size
  values-told e t = none_told (values_turn (at_line 2 v []) line) (omega arith) (rw e) (values-after v line) t

  pub data-told : number ≡ 3 → Told (data_turn (at_line 3 v []) line) r
      → Told (line_turn (at_line number v (take (page_size number v) page)) line) r
      × Holds (line_turn (at_line number v (take (page_size number v) page)) line).after page
  unfolding line_turn page_size
  data-told e t =
      let z = holds-zeros page (at_line number v (take (page_size number v) page)) (omega arith) k in
      rw e (t, data-after v line page z)
