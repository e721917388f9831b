-- DATA BIT 0 of a strip is the parity of the levels of its first two cells, which no call but an erase lowers; so over any calls it changes
-- at most six times between erases.
--   first-data       data bit 0 by the levels of a strip's cells
--   bit-read         the bit of what a page reads as
--   changes-most     AT MOST SIX CHANGES since the page was last erased, over any calls
--   turn-climbs      a write that changes it is spent, or raises one of the two cells
--   seventh-spent    after six changes the next write that changes it is spent
--   seven-spent      writes that change it each time are spent by the seventh at the latest
--   six-made         six changes are made by some calls
use mathlib.Core.Path.{◌≡◌, refl, sym, ◌∙◌, ap}
use mathlib.Core.Bool.{Bool}
use mathlib.Core.List.{List, [], ◌∷◌}
use mathlib.Core.Option.{none}
use mathlib.Core.Logic.{◌⊎◌, inl, inr}
use Prim.Native.Nat.{ℕ, zero, suc, ◌<◌, ◌≤◌, ◌+◌, ◌*◌, ◌%◌}
use native.Mathlib.Omega.{arith}
use lib.ListN.{length, drop}
use Rattle.cells.specs.Places.{Each, and_each, sum_of, list_of, from_bits}
use Rattle.cells.specs.Bytes.{bit_of, bytes_of}
use Rattle.cells.specs.Levels.{level}
use Rattle.cells.specs.Climbs.{house}
use Rattle.cells.specs.Raising.{start_of}
use Rattle.cells.proofs.Places.{sum_of-zero, each_first, each-rest}
use Rattle.cells.proofs.Bytes.{one-octet}
use Rattle.cells.proofs.Levels.{level-bound}
use Rattle.cells.proofs.Parts.{within}
use Rattle.codes.specs.Generators.{Generators, g2, digit}
use Rattle.codes.specs.Layouts.{one_bit, stage_count, cell_count, byte_count}
use Rattle.codes.specs.Reading.{ago, sum_bit, code_bit, data_bit}
use Rattle.codes.specs.Taps.{first_bit, second_bit}
use Rattle.codes.proofs.Layouts.{one_bit-data, one_bit-cells, one_bit-bytes}
use Rattle.codes.proofs.Reading.{ago-now, ago-before}
use Rattle.search.specs.Layouts.{unmarked}
use Rattle.search.proofs.OneBit.{Both}
use Rattle.demand.specs.Reading.{strip_levels, read_by, read_page}
use Rattle.demand.proofs.Reading.{reads_only}
use Rattle.refusals.specs.Refusals.{numbered}
use Rattle.page_promises.specs.Writes.{marked_by, page_with, answer_of, page_of}
use Rattle.page_promises.specs.Promise.{WroteBy, done, spent, refused}
use Rattle.page_promises.proofs.Promise.{numbered-both, wrote_by, one-ground}
use Rattle.page_ledger.specs.Ledger.{cells_on, Event, Fair, fair_raise, fair_erase, fair_look, page_after, Call, write, list, band, erase}
use Rattle.page_ledger.specs.Ledger.{put, erase_block, look, Marking, writes, lists, bands, erases, puts, block_erases, looks}
use Rattle.page_ledger.specs.Ledger.{event_of, played, tally}
use Rattle.page_known.specs.Known.{Says, erased, early, changing_run}
use Rattle.page_ledger.proofs.Ledger.{call-fair, call_stays}
use Rattle.page_ledger.proofs.Singles.{played-last}
use Rattle.page_known.proofs.Known.{runs-hold}
use Rattle.page_answers.specs.declared.Answer.{Answer}
use Rattle.page_answers.specs.declared.Answer.TheVariants as A
use Rattle.certain.specs.Changes.{bit_zero, changes, most_changes, Turn, turn_call, turn_answer, ChangesIt, OneSpent}

-- DATA BIT 0 of a strip
first-data : (G : Generators) → Both G → (v : ℕ → ℕ) → data_bit one_bit G v 0 ≡ (v 0 + v 1) % 2
unfolding sum_bit sum_of first_bit second_bit
first-data G K v =
    one_bit-data G v 0
    ∙ rw (
      ago-now (first_bit v) 0,
      ago-now (second_bit v) 0,
      K.g1-leads,
      K.g2-leads,
      sum_of-zero G.memory _ (λ i h. later i),
    ) (omega arith)
  where
    later : (i : ℕ) → digit G.memory (g2 G) (suc i) * ago (first_bit v) 0 (suc i)
        + digit G.memory G.g1 (suc i) * ago (second_bit v) 0 (suc i) ≡ 0
    later i = rw (ago-before (first_bit v) i, ago-before (second_bit v) i) (omega arith)

-- EVERY CALL is one under the marks of its own map
own_marks : Call → ℕ → Bool
own_marks (write map W code L S content b) = marked_by map
own_marks (list map W code L S count content b) = marked_by map
own_marks (band code v M b) = marked_by none
own_marks (erase map L S tenths) = marked_by map
own_marks (put code L S P content b) = marked_by none
own_marks (erase_block L S P tenths) = marked_by none
own_marks look = unmarked

own-marking : (n : ℕ) (c : Call) → Marking n (own_marks c) c
unfolding own_marks
own-marking n (write map W code L S content b) = writes (λ c h. refl)
own-marking n (list map W code L S count content b) = lists (λ c h. refl)
own-marking n (band code v M b) = bands (λ c h. refl)
own-marking n (erase map L S tenths) = erases (λ c h. refl)
own-marking n (put code L S P content b) = puts (λ c h. refl)
own-marking n (erase_block L S P tenths) = block_erases (λ c h. refl)
own-marking n look = looks

-- STRIP k of a page of S strips
module _ (L S : ℕ) (some_bytes : 0 < L) (k : ℕ) (inside : k < S) where
  -- the levels of its first two cells together
  abbrev climbed : List ℕ → ℕ
  climbed page = level page (cell_count one_bit L * k) + level page (cell_count one_bit L * k + 1)

  -- they climb six steps at the most
  climbed-most : (page : List ℕ) → climbed page ≤ most_changes
  climbed-most page = omega (arith, level-bound page (cell_count one_bit L * k), level-bound page (cell_count one_bit L * k + 1))

  -- THE BIT is their parity, with either code
  pub bit-read : (code : ℕ) (page : List ℕ) → bit_zero code L S k page ≡ climbed page % 2
  unfolding bit_zero read_page strip_levels
  bit-read code page =
      let a : 8 * L * k ≡ 8 * L * k + 0 = omega arith in
      let b : cell_count one_bit L * k + 0 ≡ cell_count one_bit L * k = omega arith in
      rw a (sym (reads_only one_bit (numbered code) L S page _ refl k inside 0 (omega arith))
      ∙ first-data (numbered code) (numbered-both code) (strip_levels (cell_count one_bit L) page k) ∙ rw b refl)

  -- where no cell of the page falls they do not
  climbed-rises : (page after : List ℕ) → ((c : ℕ) → c < cell_count one_bit L * S → level page c ≤ level after c)
      → climbed page ≤ climbed after
  climbed-rises page after up =
      let w = within (cell_count one_bit L) k S inside in
      let z = one_bit-cells L in
      omega (arith, up (cell_count one_bit L * k) (omega arith), up (cell_count one_bit L * k + 1) (omega arith))

  -- the cells of a page of the right length are its strips'
  cells_whole : (page : List ℕ) → length page ≡ byte_count one_bit L * S → cells_on page ≡ cell_count one_bit L * S
  unfolding cells_on
  cells_whole page size = rw (size, one_bit-cells L, one_bit-bytes L) (omega arith)

  -- ANY CALLS, counted by what a page reads as with this code
  module _ (code : ℕ) where
    -- an event: the changes so far are no more than the steps that the two cells have climbed
    event-counts : {base : ℕ} {page : List ℕ} {e : Event} → Fair base page e → length page ≡ byte_count one_bit L * S → (n : ℕ)
        → n ≤ climbed page → changes (bit_zero code L S k) e page n ≤ climbed (page_after e page)
    event-counts {page = page} (fair_raise {after = after} s up) size n h =
        omega (arith, bit-read code page, bit-read code after, climbed-rises page after (rw (cells_whole page size) at up))
    event-counts (fair_erase e) size n h = omega arith
    event-counts fair_look size n h = h

    -- so after any calls
    changes-climb : (starts : ℕ → ℕ → ℕ) (cs : List Call) (page : List ℕ) (n : ℕ) → length page ≡ byte_count one_bit L * S
        → n ≤ climbed page → tally (changes (bit_zero code L S k)) starts cs page n ≤ climbed (played starts cs page)
    unfolding tally played
    changes-climb starts [] page n size h = h
    changes-climb starts (c ∷ cs) page n size h =
        let m = own-marking (cells_on page) c in
        changes-climb (λ n. starts (suc n)) cs _ _ ((call_stays (starts 0) (own_marks c) page m).size ∙ size)
        (event-counts (call-fair (starts 0) (own_marks c) page m) size n h)

    -- AT MOST SIX CHANGES since the page was last erased, or since the start: whatever the codes, weights, maps and sizes of the calls
    pub changes-most : (starts : ℕ → ℕ → ℕ) (cs : List Call) (page : List ℕ) → length page ≡ byte_count one_bit L * S
        → tally (changes (bit_zero code L S k)) starts cs page 0 ≤ most_changes
    changes-most starts cs page size =
        omega (arith, changes-climb starts cs page 0 size (omega arith), climbed-most (played starts cs page))

    -- A WRITE THAT CHANGES IT is spent, or the two cells climb
    turn-climbs : (start : ℕ → ℕ) (page : List ℕ) (t : Turn) → ChangesIt code L S k page t
        → ((j : ℕ) × (turn_answer L S t page ≡ A.Spent j))
        ⊎ (climbed page < climbed (page_with t.map t.weights t.code L S page t.content start))
    unfolding bit_zero read_page
    turn-climbs start page t c = go _ _ (wrote_by start t.map t.weights t.code L S page t.content t.octets) refl
      where
        go : (after : List ℕ) (r : Answer) → WroteBy start t.map t.weights t.code L S page t.content after r
            → turn_answer L S t page ≡ r → ((j : ℕ) × (turn_answer L S t page ≡ A.Spent j)) ⊎ (climbed page < climbed after)
        go after r (done e p) f =
            inr (omega (
              arith,
              c.other,
              bit-read code page,
              sym (ap (λ (x : List ℕ). bit_of x (8 * L * k)) p.could.reads) ∙ bit-read t.code after,
              climbed-rises page after p.could.no_lower,
            ))
        go after r (spent {k = j} e p q) f = inl (j, f)
        go after r (refused e q) f = absurd (one-ground c.no_ground e)

    -- AFTER SIX CHANGES the next write that changes it is spent
    pub seventh-spent : (starts : ℕ → ℕ → ℕ) (cs : List Call) (page : List ℕ) → length page ≡ byte_count one_bit L * S
        → tally (changes (bit_zero code L S k)) starts cs page 0 ≡ most_changes
        → (t : Turn) → ChangesIt code L S k (played starts cs page) t
        → (j : ℕ) × (turn_answer L S t (played starts cs page) ≡ A.Spent j)
    seventh-spent starts cs page size six t c = go (turn-climbs start_of (played starts cs page) t c)
      where
        before : List ℕ
        before = played starts cs page

        after : List ℕ
        after = page_with t.map t.weights t.code L S before t.content start_of

        go : ((j : ℕ) × (turn_answer L S t before ≡ A.Spent j)) ⊎ (climbed before < climbed after)
            → (j : ℕ) × (turn_answer L S t before ≡ A.Spent j)
        go (inl s) = s
        go (inr h) = absurd (omega (arith, changes-climb starts cs page 0 size (omega arith), climbed-most after))

    -- WRITES THAT CHANGE IT EACH TIME, one after another from any page
    module _ (starts : ℕ → ℕ → ℕ) (page : List ℕ) (turns : ℕ → Turn) where
      -- the page after n of them
      abbrev pub turns_page : ℕ → List ℕ
      turns_page n = played starts (list_of n (λ i. turn_call L S (turns i))) page

      -- what they answer
      abbrev pub turns_answer : ℕ → Answer
      turns_answer n = turn_answer L S (turns n) (turns_page n)

      -- one of the first n is spent, or the two cells have climbed n steps
      climbs : (n : ℕ) → ((i : ℕ) → i < n → ChangesIt code L S k (turns_page i) (turns i))
          → OneSpent n turns_answer ⊎ (n ≤ climbed (turns_page n))
      unfolding event_of
      climbs zero c = inr (omega arith)
      climbs (suc n) c = go (climbs n (λ i l. c i (omega arith))) (turn-climbs (starts n) (turns_page n) (turns n) (c n (omega arith)))
        where
          after : List ℕ
          after = page_with (turns n).map (turns n).weights (turns n).code L S (turns_page n) (turns n).content (starts n)

          go : OneSpent n turns_answer ⊎ (n ≤ climbed (turns_page n))
              → ((j : ℕ) × (turns_answer n ≡ A.Spent j)) ⊎ (climbed (turns_page n) < climbed after)
              → OneSpent (suc n) turns_answer ⊎ (suc n ≤ climbed (turns_page (suc n)))
          go (inl s) t = inl (record { which = s.which; inside = omega (arith, s.inside); strip = s.strip; is = s.is })
          go (inr h) (inl (j, s)) = inl (record { which = n; inside = omega arith; strip = j; is = s })
          go (inr h) (inr l) =
              let z : suc n ≤ climbed after = omega arith in
              inr (rw (played-last starts (λ i. turn_call L S (turns i)) n page) z)

      -- ARE SPENT BY THE SEVENTH at the latest
      pub seven-spent : ((i : ℕ) → i < suc most_changes → ChangesIt code L S k (turns_page i) (turns i))
          → OneSpent (suc most_changes) turns_answer
      seven-spent c = go (climbs (suc most_changes) c)
        where
          go : OneSpent (suc most_changes) turns_answer ⊎ (suc most_changes ≤ climbed (turns_page (suc most_changes)))
              → OneSpent (suc most_changes) turns_answer
          go (inl s) = s
          go (inr h) = absurd (omega (arith, climbed-most (turns_page (suc most_changes))))

-- SIX ARE MADE. A write of a byte with code 3 and the house's weights
byte_call : (byte : ℕ) → byte < 256 → Call
byte_call byte h = write none house 3 1 1 (byte ∷ []) (one-octet byte h)

-- those of the run
changing_calls : List Call
changing_calls =
    byte_call 0x05 (omega arith) ∷ byte_call 0x02 (omega arith) ∷ byte_call 0x05 (omega arith) ∷ byte_call 0x00 (omega arith)
    ∷ byte_call 0x05 (omega arith) ∷ byte_call 0x02 (omega arith) ∷ []

-- the count after it, and after other calls
count-on : (shown : List ℕ → ℕ) (page : List ℕ) (byte : ℕ) (h : byte < 256) {after : List ℕ} → page_of house 3 1 1 page (byte ∷ []) ≡ after
    → (cs : List Call) (n : ℕ)
    → tally (changes shown) (λ n. start_of) (byte_call byte h ∷ cs) page n
    ≡ tally (changes shown) (λ n. start_of) cs after (n + (shown page + shown after) % 2)
unfolding tally event_of byte_call
count-on shown page byte h e cs n =
    ap (λ (p : List ℕ). tally (changes shown) (λ n. start_of) cs p (n + (shown page + shown p) % 2)) e

-- so the run's calls change it six times
pub six-made : (cs : List Call) × (tally (changes (bit_zero 3 1 1 0)) (λ n. start_of) cs erased 0 ≡ most_changes)
unfolding changing_calls tally bit_zero read_page read_by bytes_of list_of from_bits strip_levels data_bit sum_bit code_bit sum_of ago numbered digit
    bit_of level cell_count stage_count
six-made = (changing_calls, go (each_first (each-rest (each-rest (each-rest (each-rest runs-hold))))))
  where
    bit : List ℕ → ℕ
    bit = bit_zero 3 1 1 0

    go : Each (Says answer_of page_of) changing_run → tally (changes (bit_zero 3 1 1 0)) (λ n. start_of) changing_calls erased 0 ≡ most_changes
    go (and_each a (and_each b (and_each c (and_each d (and_each e (and_each f g)))))) =
        count-on bit erased 0x05 (omega arith) a.1 (drop 1 changing_calls) 0
        ∙ count-on bit (early 0x01 0) 0x02 (omega arith) b.1 (drop 2 changing_calls) 1
        ∙ count-on bit (early 0x11 0) 0x05 (omega arith) c.1 (drop 3 changing_calls) 2
        ∙ count-on bit (early 0x31 0) 0x00 (omega arith) d.1 (drop 4 changing_calls) 3
        ∙ count-on bit (early 0x33 0) 0x05 (omega arith) e.1 (drop 5 changing_calls) 4
        ∙ count-on bit (early 0x37 0) 0x02 (omega arith) f.1 [] 5
