-- OLDER AND NEWER RELEASES. What a call answers, reads and counts depends on the levels of the page alone, and so do the levels that it
-- leaves: releases that set the bits of a cell in different orders can take turns on a page.
--   promised-alike        two calls that keep their promise, each in its own order, on pages with the same levels
--   write-alike           two writes
--   list-alike            two lists
--   band-alike            two writes in a band
--   puts-alike, put-alike two puts to a block of pages
--   older-write           a write of the releases before K7 and one of this release
--   census-alike          the census
--   releases-alike        any sequence of calls, by any releases
--   releases-read         what the pages after it read as
--   older-reads           so a page that the releases before K7 wrote reads as one of this release, and the other way round
--   older-case            document 01's case 01, byte for byte, is what the releases before K7 do
use mathlib.Core.Path.{◌≡◌, refl, sym, ◌∙◌, ap, ap₂, fun_ext}
use mathlib.Core.Bool.{cond}
use mathlib.Core.List.{List, [], ◌∷◌, ◌++◌}
use mathlib.Core.Logic.{⊎_elim}
use mathlib.Core.Option.{Option, none, some}
use Prim.Native.Nat.{ℕ, suc, ◌<◌, ◌+◌, ◌*◌, ◌≤◌}
use native.Mathlib.Omega.{arith}
use lib.Dec.{ltb}
use lib.ListN.{length, replicate}
use Rattle.cells.specs.Places.{list_of, from_bits}
use Rattle.cells.specs.Bytes.{bit_of, bytes_of, Octets}
use Rattle.cells.specs.Levels.{level, SameLevels}
use Rattle.cells.specs.Marks.{emptied}
use Rattle.cells.specs.Raising.{start_of, older_start, start_in, zero_from, raise, raised_times, triple, raised_to}
use Rattle.cells.specs.Climbs.{house, climb, cost_of, weight_of}
use Rattle.cells.proofs.Places.{same?, sum_of-same, each_first, each-rest}
use Rattle.cells.proofs.Bytes.{one-octet}
use Rattle.cells.proofs.Raising.{raised_to-same}
use Rattle.cells.proofs.Levels.{levels-at, levels-sym, levels-self}
use Rattle.cells.proofs.Marks.{emptied-levels}
use Rattle.codes.specs.Generators.{Generators}
use Rattle.codes.specs.Layouts.{one_bit, stage_count, cell_count}
use Rattle.demand.specs.Jobs.{Job, width, InOrder}
use Rattle.demand.specs.Reading.{strip_levels, read_page}
use Rattle.demand.proofs.Jobs.{part-octets}
use Rattle.demand.proofs.Weights.{spent-once}
use Rattle.demand.specs.Offers.{Offer}
use Rattle.demand.proofs.Offers.{same-choice}
use Rattle.demand.specs.Demand.{LowerAtFirst}
use Rattle.demand.proofs.Orders.{read-levels, on_page, not-both, could-levels, cheapest-levels, spent-levels}
use Rattle.refusals.specs.Refusals.{band_bytes, band_strips, value_ground, shape_ground, block_erasing, completion_of, kept}
use Rattle.refusals.proofs.Refusals.{put-in-order}
use Rattle.page_promises.specs.Writes.{job_page, marked_by, ground_with, job_with, answer_with, page_with, answer_of, page_by, page_of}
use Rattle.page_promises.specs.Promise.{Promised, done, spent, refused}
use Rattle.page_counting.specs.Counting.{row_of, zero_row, row_at, rows_of, census_of}
use Rattle.page_promises.specs.Lists.{data_of, Course, unless_refused, ground_of, list_with, list_course}
use Rattle.page_ledger.specs.Ledger.{erased, looked, page_after, Call, write, list, band, erase, put, erase_block, look}
use Rattle.page_ledger.specs.Ledger.{to_write, to_list, to_band, erasing, event_of, answer_to, played, answered}
use Rattle.refusals.specs.declared.Refusal.{Refusal}
use Rattle.page_counting.specs.declared.Row.{Row}
use Rattle.page_answers.specs.declared.Answer.{Answer}
use Rattle.page_answers.specs.declared.Answer.TheVariants as A
use Rattle.page_answers.specs.Answers.{offered}
use Rattle.page_answers.specs.declared.ListAnswer.{ListAnswer}
use Rattle.page_answers.specs.declared.BandAnswer.{BandAnswer}
use Rattle.page_known.specs.Known.{six}
use Rattle.page_known.proofs.Known.{cases-hold}
use Rattle.page_promises.proofs.Promise.{job-in-order, in-order-job, wrote_by, one-ground}
use Rattle.page_promises.proofs.Lists.{course-alike}
use Rattle.page_promises.specs.Families.{job_offer}
use Rattle.page_promises.specs.Band.{value_bytes, value_job, value_at, value_count, band_choice, band_answer_by, chosen_page, band_answer}
use Rattle.page_promises.specs.Band.{band_page_by}
use Rattle.page_promises.proofs.Band.{value-octets, value-plain, tried-fits, chosen-fits}
use Rattle.block_promises.specs.Block.{block_cells, ground_of_put, put_answer, block_by, CouldPut, block_cost, PutCheapest, PutPromised}
use Rattle.block_promises.specs.Block.{put-done, no_page, put_refused}
use Rattle.block_promises.proofs.Parts.{block-cell}
use Rattle.block_promises.proofs.Block.{put-kept}

-- ONE CALL. On pages with the same levels two calls that keep their promise, each in its own order, answer alike and leave the same levels
module _ (g : Option Refusal) (J : Job) {p q : List ℕ} (s : SameLevels p q) (I : g ≡ none → InOrder (on_page p J)) where
  pub promised-alike : {start start' : ℕ → ℕ} {x y : List ℕ} {r t : Answer}
      → Promised start g (on_page p J) x r → Promised start' g (on_page q J) y t → (r ≡ t) × SameLevels x y
  promised-alike (done e c) (done f d) = let z = cheapest-levels J s (I e) c d in (ap A.Done z.0, z.1)
  promised-alike (done e c) (spent f d y) = absurd (d.no_page _ (could-levels J s levels-self c.could))
  promised-alike (done e c) (refused f y) = absurd (one-ground e f)
  promised-alike (spent e c x) (done f d) = absurd (c.no_page _ (could-levels J (levels-sym s) levels-self d.could))
  promised-alike (spent e c x) (spent f d y) = (ap A.Spent (spent-once (spent-levels J s (I e) c) d), rw (x, y) s)
  promised-alike (spent e c x) (refused f y) = absurd (one-ground e f)
  promised-alike (refused e x) (done f d) = absurd (one-ground f e)
  promised-alike (refused e x) (spent f d y) = absurd (one-ground f e)
  promised-alike (refused e x) (refused f y) = (cc, rw (x, y) s)

-- TWO WRITES of the same data with any map and weights, in any two orders, on pages of one length with equal levels
pub write-alike : (start start' : ℕ → ℕ) (map : Option (List ℕ)) (W : List ℕ) (code L S : ℕ) {p q : List ℕ} (content : List ℕ)
    → Octets content → SameLevels p q
    → (answer_with map W code L S p content ≡ answer_with map W code L S q content)
    × SameLevels (page_with map W code L S p content start) (page_with map W code L S q content start')
write-alike start start' map W code L S {p} {q} content b s =
    promised-alike (ground_with map W code L S p content) (job_with map W code L S p content) s (job-in-order map W code L S p content b)
    (wrote_by start map W code L S p content b)
    (rw (sym s.size) at (wrote_by start' map W code L S q content b))

-- TWO LISTS of the same datas
pub list-alike : (start start' : ℕ → ℕ) (map : Option (List ℕ)) (W : List ℕ) (code L S count : ℕ) {p q : List ℕ} (content : List ℕ)
    → Octets content → SameLevels p q
    → ((list_with map W code L S count p content start).answer ≡ (list_with map W code L S count q content start').answer)
    × SameLevels (list_with map W code L S count p content start).page (list_with map W code L S count q content start').page
unfolding list_with
list-alike start start' map W code L S count {p} {q} content b s = rw s.size (go (ground_of map W code L S count q content))
  where
    -- by single writes
    course : (ℕ → ℕ) → List ℕ → Course
    course start before = list_course map W code L S before content start count

    go : (g : Option Refusal) → ((unless_refused g (course start p) p).answer ≡ (unless_refused g (course start' q) q).answer)
        × SameLevels (unless_refused g (course start p) p).page (unless_refused g (course start' q) q).page
    go none =
        course-alike SameLevels _ _ _ _ (data_of L S content) count
        (λ n h x y r. write-alike start start' map W code L S (data_of L S content n) (part-octets (L * S) n content b) r)
        s count (omega arith)
    go (some r) = (refl, s)

-- TWO WRITES IN A BAND. The plain writes of a value, where these have no ground
value-alike : (start start' : ℕ → ℕ) (code M : ℕ) {p q : List ℕ} (w : ℕ) → w ≤ 65535 → SameLevels p q
    → value_ground code M (length p) ≡ none
    → (job_offer (value_job code p w) ≡ job_offer (value_job code q w))
    × SameLevels (job_page none (value_job code p w) start) (job_page none (value_job code q w) start')
value-alike start start' code M {p} {q} w h s g =
    let z = write-alike start start' none house code band_bytes band_strips (value_bytes w) (value-octets w h) s in
    let x = in-order-job start none house code band_bytes band_strips p (value_bytes w) (value-plain code M p g) refl refl in
    let y = in-order-job start' none house code band_bytes band_strips q (value_bytes w)
    (value-plain code M q (rw s.size at g)) refl refl in
    (ap offered (x.0 ∙ z.0 ∙ sym y.0), rw (x.1, y.1) z.1)

-- so the choice is the same
choice-alike : (code v M : ℕ) {p q : List ℕ} → v ≤ 65535 → SameLevels p q → value_ground code M (length p) ≡ none
    → band_choice code q v M ≡ band_choice code p v M
unfolding band_choice
choice-alike code v M f s g =
    same-choice _ _ _ (value_count v M) (λ i h. sym (value-alike start_of start_of code M (value_at v M i) (tried-fits v M f i h) s g).0)

-- and so are the answers and the levels
pub band-alike : (start start' : ℕ → ℕ) (code v M : ℕ) {p q : List ℕ} → v ≤ 65535 → SameLevels p q
    → (band_answer code p v M ≡ band_answer code q v M) × SameLevels (band_page_by code p v M start) (band_page_by code q v M start')
unfolding band_answer band_page_by
band-alike start start' code v M {p} {q} f s =
    rw (sym s.size) (go (value_ground code M (length p)) refl (band_choice code p v M) refl)
  where
    same : value_ground code M (length p) ≡ none → band_choice code q v M ≡ band_choice code p v M
    same = choice-alike code v M f s

    go : (g : Option Refusal) → value_ground code M (length p) ≡ g → (o : Option Offer) → band_choice code p v M ≡ o
        → (band_answer_by code p v M g o ≡ band_answer_by code q v M g (band_choice code q v M))
        × SameLevels (chosen_page code p v M g o start) (chosen_page code q v M g (band_choice code q v M) start')
    go (some r) e o c = (refl, s)
    go none e none c = rw (same e ∙ c) (refl, s)
    go none e (some o) c =
        rw (same e ∙ c)
        (refl, (value-alike start start' code M (value_at v M o.number) (chosen-fits code p v M f c) s e).1)

-- TWO PUTS. On blocks with the same levels the same blocks could be
module _ (code L S P : ℕ) (content : List ℕ) {p q : List ℕ} (s : SameLevels p q) where
  could-put : {i : ℕ} {x : List ℕ} → CouldPut code L S P p content i x → CouldPut code L S P q content i x
  could-put c = record {
    size = c.size ∙ s.size;
    names = c.names;
    reads = c.reads;
    no_lower = λ k h. omega (arith, c.no_lower k h, levels-at s k);
  }

  -- at the same cost
  put-cost : (x : List ℕ) → block_cost code L S P p content x ≡ block_cost code L S P q content x
  unfolding block_cost cost_of
  put-cost x = sum_of-same (block_cells L S P) _ _ (λ c h. ap (λ (l : ℕ). climb (weight_of house) l (level x c)) (levels-at s c))

-- so what two puts pick, each in its own order, has one cost and the same levels
module _ (code L S P : ℕ) (content : List ℕ) {p q : List ℕ} (s : SameLevels p q) (g : ground_of_put code L S P p content ≡ none)
    {start start' : ℕ → ℕ} {i j : ℕ} {x y : List ℕ} {a b : ℕ}
    (c : PutCheapest code L S P p content start i x a) (d : PutCheapest code L S P q content start' j y b) where
  -- either block could be the other's
  x-could : CouldPut code L S P q content i x
  x-could = could-put code L S P content s c.could

  y-could : CouldPut code L S P p content j y
  y-could = could-put code L S P content (levels-sym s) d.could

  -- neither costs more
  put-same-cost : a ≡ b
  put-same-cost =
      omega (
        arith,
        c.least j d.inside y y-could,
        d.least i c.inside x x-could,
        c.paid,
        d.paid,
        put-cost code L S P content s x,
        put-cost code L S P content s y,
      )

  x-paid : block_cost code L S P q content x ≡ b
  x-paid = sym (put-cost code L S P content s x) ∙ c.paid ∙ put-same-cost

  y-paid : block_cost code L S P p content y ≡ a
  y-paid = put-cost code L S P content s y ∙ d.paid ∙ sym put-same-cost

  -- and neither is of a lower page
  one-page : i ≡ j
  one-page = omega (arith, c.lowest j d.inside y y-could y-paid, d.lowest i c.inside x x-could x-paid)

  -- a cell where they differ would make both lower at the first such cell
  put-same-levels : SameLevels x y
  put-same-levels = record {
    size = c.could.size ∙ s.size ∙ sym d.could.size;
    same = λ k h. ⊎_elim (λ e. e) (λ n. absurd (not-both (first k h n) (second k h n))) (same? (level x k) (level y k));
  }
    where
      cell : (k : ℕ) → 3 * k < 8 * length x → k < block_cells L S P
      cell k h =
          block-cell L S P x (c.could.size ∙ (put-in-order code L S P (length p) (length content) g).block-is) k h

      first : (k : ℕ) → 3 * k < 8 * length x → (level x k ≡ level y k → ⊥) → LowerAtFirst (block_cells L S P) x y
      first k h n = c.among_equals y (rw one-page y-could) y-paid k (cell k h) n

      second : (k : ℕ) → 3 * k < 8 * length x → (level x k ≡ level y k → ⊥) → LowerAtFirst (block_cells L S P) y x
      second k h n = d.among_equals x (rw (sym one-page) x-could) x-paid k (cell k h) (λ e. n (sym e))

-- two puts that keep their promise, each in its own order, answer alike and leave the same levels
pub puts-alike : (code L S P : ℕ) (content : List ℕ) {p q : List ℕ} → SameLevels p q → (g : Option Refusal)
    → ground_of_put code L S P p content ≡ g → {start start' : ℕ → ℕ} {x y : List ℕ} {r t : Answer}
    → PutPromised code L S P p content start g x r → PutPromised code L S P q content start' g y t → (r ≡ t) × SameLevels x y
puts-alike code L S P content s g f (put-done e i c) (put-done h j d) =
    (ap A.Done (put-same-cost code L S P content s (f ∙ e) c d), put-same-levels code L S P content s (f ∙ e) c d)
puts-alike code L S P content s g f (put-done e i c) (no_page h n y) =
    absurd (n i c.inside _ (could-put code L S P content s c.could))
puts-alike code L S P content s g f (put-done e i c) (put_refused h y) = absurd (one-ground e h)
puts-alike code L S P content s g f (no_page e n x) (put-done h j d) =
    absurd (n j d.inside _ (could-put code L S P content (levels-sym s) d.could))
puts-alike code L S P content s g f (no_page e n x) (no_page h m y) = (refl, rw (x, y) s)
puts-alike code L S P content s g f (no_page e n x) (put_refused h y) = absurd (one-ground e h)
puts-alike code L S P content s g f (put_refused e x) (put-done h j d) = absurd (one-ground h e)
puts-alike code L S P content s g f (put_refused e x) (no_page h m y) = absurd (one-ground h e)
puts-alike code L S P content s g f (put_refused e x) (put_refused h y) = (cc, rw (x, y) s)

-- of the same data, in any two orders, to blocks of one length with equal levels
pub put-alike : (start start' : ℕ → ℕ) (code L S P : ℕ) {p q : List ℕ} (content : List ℕ) → Octets content → SameLevels p q
    → (put_answer code L S P p content ≡ put_answer code L S P q content)
    × SameLevels (block_by code L S P p content start) (block_by code L S P q content start')
put-alike start start' code L S P {p} {q} content b s =
    puts-alike code L S P content s (ground_of_put code L S P p content) refl (put-kept start code L S P p content b)
    (rw (sym s.size) at (put-kept start' code L S P q content b))

-- A WRITE OF THE RELEASES BEFORE K7, which raise from bit 0 on, and one of this release
pub older-write : (W : List ℕ) (code L S : ℕ) {p q : List ℕ} (content : List ℕ) → Octets content → SameLevels p q
    → (answer_of W code L S p content ≡ answer_of W code L S q content)
    × SameLevels (page_by W code L S p content older_start) (page_of W code L S q content)
older-write W code L S content b s = write-alike older_start start_of none W code L S content b s

-- THE CENSUS
pub census-alike : (L S : ℕ) {x y : List ℕ} → SameLevels x y → census_of L S x ≡ census_of L S y
unfolding census_of rows_of row_at strip_levels
census-alike L S {x} {y} s =
    rw s.size (ap (λ (rows : List Row). record { answer = completion_of (shape_ground L S (length y)); rows = rows })
    (same_rows (shape_ground L S (length y))))
  where
    n : ℕ
    n = cell_count one_bit L

    same_rows : (g : Option Refusal) → rows_of one_bit g L S x ≡ rows_of one_bit g L S y
    same_rows none =
        ap (λ (v : ℕ → ℕ). list_of 64 (λ k. cond (ltb k S) (row_of n (λ c. v (n * k + c))) zero_row)) (fun_ext (levels-at s))
    same_rows (some r) = refl

-- ANY SEQUENCE OF CALLS. After a call the levels are the same
call-alike : (start start' : ℕ → ℕ) (c : Call) {p q : List ℕ} → SameLevels p q
    → (answer_to start c p ≡ answer_to start' c q) × SameLevels (page_after (event_of start c p) p) (page_after (event_of start' c q) q)
unfolding event_of
call-alike start start' (write map W code L S content b) s =
    let z = write-alike start start' map W code L S content b s in
    (ap (λ (r : Answer). to_write r ∷ []) z.0, z.1)
call-alike start start' (list map W code L S count content b) s =
    let z = list-alike start start' map W code L S count content b s in
    (ap (λ (a : ListAnswer). to_list a ∷ []) z.0, z.1)
call-alike start start' (band code v M b) s =
    let z = band-alike start start' code v M b s in
    (ap (λ (a : BandAnswer). to_band a ∷ []) z.0, z.1)
call-alike start start' (erase map L S tenths) {p} {q} s = (refl, rw s.size (go (erasing map L S tenths q)))
  where
    go : (g : Option Refusal) → SameLevels (page_after (kept g (erased (emptied (marked_by map) p)) looked) p)
        (page_after (kept g (erased (emptied (marked_by map) q)) looked) q)
    go none = emptied-levels (marked_by map) s
    go (some r) = s
call-alike start start' (put code L S P content b) s =
    let z = put-alike start start' code L S P content b s in
    (ap (λ (r : Answer). to_write r ∷ []) z.0, z.1)
call-alike start start' (erase_block L S P tenths) {p} {q} s = (refl, rw s.size (go (block_erasing L S P (length q) tenths)))
  where
    go : (g : Option Refusal) → SameLevels (page_after (kept g (erased (replicate (length q) 0)) looked) p)
        (page_after (kept g (erased (replicate (length q) 0)) looked) q)
    go none = levels-self
    go (some r) = s
call-alike start start' look s = (refl, s)

-- and so after any sequence, in which each call may be made by a release of its own
pub releases-alike : (starts starts' : ℕ → ℕ → ℕ) (cs : List Call) {p q : List ℕ} → SameLevels p q
    → (answered starts cs p ≡ answered starts' cs q) × SameLevels (played starts cs p) (played starts' cs q)
unfolding played answered
releases-alike starts starts' [] s = (refl, s)
releases-alike starts starts' (c ∷ cs) s =
    let z = call-alike (starts 0) (starts' 0) c s in
    let w = releases-alike (λ n. starts (suc n)) (λ n. starts' (suc n)) cs z.1 in
    (ap₂ ◌++◌ z.0 w.0, w.1)

-- READING after any such sequence
pub releases-read : (G : Generators) (L S : ℕ) (starts starts' : ℕ → ℕ → ℕ) (cs : List Call) {p q : List ℕ} → SameLevels p q
    → read_page G L S (played starts cs p) ≡ read_page G L S (played starts' cs q)
unfolding read_page
releases-read G L S starts starts' cs s = read-levels one_bit G L S (releases-alike starts starts' cs s).1

-- SO PAGES OF OLDER RELEASES READ AS THEY DID, and older releases read newer pages: what any calls of the releases before K7 leave of a
-- page reads as what the same calls of this release leave of it
pub older-reads : (G : Generators) (L S : ℕ) (cs : List Call) (page : List ℕ)
    → read_page G L S (played (λ n. older_start) cs page) ≡ read_page G L S (played (λ n. start_of) cs page)
older-reads G L S cs page = releases-read G L S (λ n. older_start) (λ n. start_of) cs levels-self

-- a write that is done raises cells and does nothing else
raised_by : {start : ℕ → ℕ} {g : Option Refusal} {J : Job} {after : List ℕ} {r : Answer} {cost : ℕ} → r ≡ A.Done cost
    → Promised start g J after r → after ≡ raised_to (start_in start (width J)) J.page (level after)
raised_by e (done f c) = c.raised
raised_by e (spent f p h) = let z : ◌≡◌ {A = ℕ} 0 1 = cc in absurd (omega arith)
raised_by e (refused f h) = let z : ◌≡◌ {A = ℕ} 0 1 = cc in absurd (omega arith)

-- DOCUMENT 01'S OWN CASE: 'erased, write 01: cost 48, page 41 02 00 00 00 00' is what the releases before K7 do
pub older-case : (answer_of house 3 1 1 (six 0 0 0 0 0 0) (0x01 ∷ []) ≡ A.Done 48)
    × (page_by house 3 1 1 (six 0 0 0 0 0 0) (0x01 ∷ []) older_start ≡ six 0x41 0x02 0 0 0 0)
unfolding start_in older_start raised_to bytes_of list_of from_bits raised_times raise zero_from triple level bit_of cell_count stage_count
older-case = (
  row.0,
  raised_by row.0 (wrote_by older_start none house 3 1 1 (six 0 0 0 0 0 0) (0x01 ∷ []) byte)
      ∙ raised_to-same (start_in older_start 16) (six 0 0 0 0 0 0) _ (level (six 0x01 0x03 0 0 0 0)) (λ c h. levels-at same c),
)
  where
    -- this release's case
    row : (answer_of house 3 1 1 (six 0 0 0 0 0 0) (0x01 ∷ []) ≡ A.Done 48)
        × (page_of house 3 1 1 (six 0 0 0 0 0 0) (0x01 ∷ []) ≡ six 0x01 0x03 0 0 0 0)
    row = each_first (each-rest cases-hold)

    byte : Octets (0x01 ∷ [])
    byte = one-octet 0x01 (omega arith)

    same : SameLevels (page_by house 3 1 1 (six 0 0 0 0 0 0) (0x01 ∷ []) older_start) (six 0x01 0x03 0 0 0 0)
    same = rw row.1 at (older-write house 3 1 1 (0x01 ∷ []) byte (levels-self {x = six 0 0 0 0 0 0})).1
