-- THE LEDGER UNDER ONE MAP: from a page whose unmarked cells are at level 0, over any sequence of calls that take that map, with any
-- weights and by releases of any order, the sum of the levels is that of the marked cells and the raises of the accepted writes since the
-- last accepted erase, or since the start. Without a map, from an erased page, it is those raises; so it is of a block of pages, from an
-- erased block, with its puts.
--   erased-level                  every level of an erased page is 0
--   counts                        a fair event keeps the ledger
--   Stays, stays-levels           a page whose marked cells stay at their level: the sum of these is the same
--   fair-onward, raises-onward    a raise and another are a raise, of as many steps as both
--   write-fair                    a write lowers no cell, whatever its answer
--   list-keeps                    what each single write of a list keeps it keeps
--   band-fair, band-stays         and what the plain writes of its values keep a write in a band keeps
--   put-fair, put-stays           a put lowers no cell of its block, whatever its answer
--   call-fair, call_stays         every call under the marks is a fair event, after which the marked cells are at their level
--   ledger-from                   any sequence of calls under the marks
--   ledger-marked                 from a page whose unmarked cells are at level 0
--   ledger                        from an erased page, with no cell marked
use mathlib.Core.Path.{◌≡◌, refl, sym, ◌∙◌, ap}
use mathlib.Core.Bool.{Bool, true, false, cond, false≢true}
use mathlib.Core.List.{List, [], ◌∷◌}
use mathlib.Core.Option.{Option, none, some}
use Prim.Native.Nat.{ℕ, suc, ◌<◌, ◌≤◌, ◌+◌, ◌*◌, ◌-◌, ◌/◌}
use native.Mathlib.Omega.{arith}
use lib.ListN.{length, replicate, length-replicate}
use Rattle.cells.specs.Places.{sum_of, Each, and_each}
use Rattle.cells.specs.Bytes.{Octets}
use Rattle.cells.specs.Levels.{level, raises_of}
use Rattle.cells.specs.Marks.{emptied}
use Rattle.cells.specs.Climbs.{house}
use Rattle.cells.proofs.Places.{sum_of-same, sum_of-add, sum_of-zero}
use Rattle.cells.proofs.Marks.{zeros-bit, emptied-length, emptied-kept, emptied-raises, emptied-none}
use Rattle.search.specs.Layouts.{unmarked}
use Rattle.demand.specs.Jobs.{page_cells}
use Rattle.demand.proofs.Jobs.{part-octets}
use Rattle.demand.proofs.Demand.{page-cell}
use Rattle.page_promises.specs.Writes.{marked_by, ground_with, job_with, page_with}
use Rattle.refusals.specs.Refusals.{band_bytes, band_strips, block_erasing, kept}
use Rattle.refusals.proofs.Refusals.{put-in-order}
use Rattle.page_promises.specs.Promise.{Promised, done, spent, refused}
use Rattle.page_promises.specs.Lists.{data_of, unless_refused, ground_of, list_course, list_with}
use Rattle.page_ledger.specs.Ledger.{cells_on, raises_made, Event, raised, erased, looked, Fair, fair_raise, fair_erase, fair_look}
use Rattle.page_ledger.specs.Ledger.{page_after, counted, Call, Marking, writes, lists, bands, erases, puts, block_erases}
use Rattle.page_ledger.specs.Ledger.{looks, erasing, marked_levels, event_of, played, tally, tallied}
use Rattle.refusals.specs.declared.Refusal.{Refusal}
use Rattle.page_answers.specs.declared.Answer.{Answer}
use Rattle.page_promises.proofs.Promise.{job-in-order, wrote_by}
use Rattle.page_promises.proofs.Lists.{course-keeps}
use Rattle.page_promises.specs.Band.{value_bytes, band_page_by}
use Rattle.page_promises.proofs.Band.{value-octets, band-keeps}
use Rattle.block_promises.specs.Block.{block_cells, ground_of_put, block_by, PutPromised, put-done, no_page, put_refused}
use Rattle.block_promises.proofs.Parts.{block-cell}
use Rattle.block_promises.proofs.Block.{put-kept, put-rises}

-- ERASED PAGES. Every level is 0
pub erased-level : (n c : ℕ) → level (replicate n 0) c ≡ 0
unfolding level
erased-level n c = omega (arith, zeros-bit n (3 * c), zeros-bit n (3 * c + 1), zeros-bit n (3 * c + 2))

-- EVENTS. Where no cell is lowered, the sum of the levels grows by the raises
grows : (before after : List ℕ) → ((c : ℕ) → c < cells_on before → level before c ≤ level after c)
    → raises_of (cells_on before) after ≡ raises_of (cells_on before) before + raises_made before after
unfolding raises_of raises_made
grows before after h =
    sum_of-same (cells_on before) _ _ (λ c l. omega (arith, h c l))
    ∙ sum_of-add (cells_on before) (level before) (λ c. level after c - level before c)

same-cells : (x y : List ℕ) → length x ≡ length y → cells_on x ≡ cells_on y
unfolding cells_on
same-cells x y e = ap (λ (n : ℕ). 8 * n / 3) e

-- a fair event keeps the ledger: the sum of the levels is the base and the raises counted
pub counts : (base n : ℕ) (page : List ℕ) {e : Event} → Fair base page e → raises_of (cells_on page) page ≡ base + n
    → raises_of (cells_on (page_after e page)) (page_after e page) ≡ base + counted e page n
counts base n page (fair_raise {after = after} s h) p =
    ap (λ (k : ℕ). raises_of k after) (same-cells after page s) ∙ omega (arith, grows page after h)
counts base n page (fair_erase e) p = e ∙ omega arith
counts base n page fair_look p = p

-- MARKED CELLS stay at their level, on a page of the same length
pub record Stays (marks : ℕ → Bool) (before after : List ℕ) : Type 0 where
  pub size : length after ≡ length before
  pub same : (c : ℕ) → c < cells_on before → marks c ≡ true → level after c ≡ level before c

-- so the sum of their levels is the same
pub stays-levels : (marks : ℕ → Bool) {before after : List ℕ} → Stays marks before after
    → marked_levels marks after ≡ marked_levels marks before
unfolding marked_levels
stays-levels marks {before} {after} s =
    ap (λ (n : ℕ). sum_of n (λ c. cond (marks c) (level after c) 0)) (same-cells after before s.size)
    ∙ sum_of-same (cells_on before) _ _ (λ c h. go c (marks c) (s.same c h))
  where
    go : (c : ℕ) (b : Bool) → (b ≡ true → level after c ≡ level before c) → cond b (level after c) 0 ≡ cond b (level before c) 0
    go c true e = e refl
    go c false e = refl

-- RAISES IN TURN. A raise and another are a raise
pub fair-onward : {base : ℕ} {before middle after : List ℕ} → Fair base before (raised middle) → Fair base middle (raised after)
    → Fair base before (raised after)
fair-onward {before = before} {middle} {after} (fair_raise s h) (fair_raise t k) =
    fair_raise {after = after} (t ∙ s) (λ c l. omega (arith, h c l, k c (rw (same-cells middle before s) l)))

-- of as many steps as both
pub raises-onward : {base : ℕ} {before middle after : List ℕ} → Fair base before (raised middle) → Fair base middle (raised after)
    → raises_made before after ≡ raises_made before middle + raises_made middle after
raises-onward {before = before} {middle} {after} (fair_raise s h) (fair_raise t k) =
    let e = same-cells middle before s in
    let g = rw e at (grows middle after k) in
    omega (arith, grows before middle h, grows before after (λ c l. omega (arith, h c l, k c (rw e l))))

-- and marked cells that stay twice stay
stays-onward : {marks : ℕ → Bool} {before middle after : List ℕ} → Stays marks before middle → Stays marks middle after
    → Stays marks before after
stays-onward {before = before} {middle} s t = record {
  size = t.size ∙ s.size;
  same = λ c h m. t.same c (rw (same-cells middle before s.size) h) m ∙ s.same c h m;
}

-- an erase under the marks leaves a page whose levels are those of the marked cells
erase-leaves : (marks : ℕ → Bool) (map : Option (List ℕ)) (page : List ℕ) → ((c : ℕ) → c < cells_on page → marked_by map c ≡ marks c)
    → raises_of (cells_on (emptied (marked_by map) page)) (emptied (marked_by map) page) ≡ marked_levels marks page
unfolding marked_levels
erase-leaves marks map page m =
    ap (λ (n : ℕ). raises_of n (emptied (marked_by map) page)) (same-cells _ page (emptied-length (marked_by map) page))
    ∙ emptied-raises (marked_by map) page (cells_on page)
    ∙ sum_of-same (cells_on page) _ _ (λ c h. ap (λ (b : Bool). cond b (level page c) 0) (m c h))

-- THE CALLS. A write in order speaks of all cells of its page
module _ (map : Option (List ℕ)) (W : List ℕ) (code L S : ℕ) (before content : List ℕ) (b : Octets content) where
  inside : ground_with map W code L S before content ≡ none → (c : ℕ) → c < cells_on before
      → c < page_cells (job_with map W code L S before content)
  unfolding cells_on
  inside e c h = page-cell _ (job-in-order map W code L S before content b e) c (omega arith)

  -- a write lowers no cell and keeps the page's length, whatever its answer
  pub write-fair : {start : ℕ → ℕ} {after : List ℕ} {r : Answer} (base : ℕ)
      → Promised start (ground_with map W code L S before content) (job_with map W code L S before content) after r
      → Fair base before (raised after)
  write-fair base (done e p) = fair_raise p.could.size (λ c h. p.could.no_lower c (inside e c h))
  write-fair {after = after} base (spent e p f) = fair_raise {after = after} (ap length f) (λ c h. rw f (omega arith))
  write-fair {after = after} base (refused e f) = fair_raise {after = after} (ap length f) (λ c h. rw f (omega arith))

  -- and leaves the marked cells at their level
  write-stays : {start : ℕ → ℕ} {after : List ℕ} {r : Answer}
      → Promised start (ground_with map W code L S before content) (job_with map W code L S before content) after r
      → Stays (marked_by map) before after
  write-stays (done e p) = record { size = p.could.size; same = λ c h. p.could.marked_stay c (inside e c h) }
  write-stays (spent e p f) = record { size = ap length f; same = λ c h m. rw f }
  write-stays (refused e f) = record { size = ap length f; same = λ c h m. rw f }

-- A LIST. What each of its single writes keeps it keeps, whatever its answer
module _ (start : ℕ → ℕ) (map : Option (List ℕ)) (W : List ℕ) (code L S count : ℕ) (before content : List ℕ) (b : Octets content) where
  pub list-keeps : (P : List ℕ → Type 0) → ((p one : List ℕ) → Octets one → P p → P (page_with map W code L S p one start)) → P before
      → P (list_with map W code L S count before content start).page
  unfolding list_with
  list-keeps P k z = go (ground_of map W code L S count before content)
    where
      go : (g : Option Refusal) → P (unless_refused g (list_course map W code L S before content start count) before).page
      go none =
          course-keeps _ _ (data_of L S content) before P count
          (λ n h p. k p (data_of L S content n) (part-octets (L * S) n content b)) z count (omega arith)
      go (some r) = z

  -- so it lowers no cell and keeps the page's length
  list-fair : (base : ℕ) → Fair base before (raised (list_with map W code L S count before content start).page)
  list-fair base =
      list-keeps (λ p. Fair base before (raised p))
      (λ p one o f. fair-onward f (write-fair map W code L S p one o base (wrote_by start map W code L S p one o)))
      (fair_raise refl (λ c h. omega arith))

  -- and leaves the marked cells at their level
  list-stays : Stays (marked_by map) before (list_with map W code L S count before content start).page
  list-stays =
      list-keeps (Stays (marked_by map) before)
      (λ p one o s. stays-onward s (write-stays map W code L S p one o (wrote_by start map W code L S p one o)))
      (record { size = refl; same = λ c h m. refl })

-- A WRITE IN A BAND lowers no cell and keeps the page's length
module _ (start : ℕ → ℕ) (code : ℕ) (before : List ℕ) (v M : ℕ) (b : v ≤ 65535) where
  band-fair : (base : ℕ) → Fair base before (raised (band_page_by code before v M start))
  band-fair base =
      band-keeps start code before v M b (λ p. Fair base before (raised p))
      (λ w h. write-fair none house code band_bytes band_strips before (value_bytes w) (value-octets w h) base
      (wrote_by start none house code band_bytes band_strips before (value_bytes w) (value-octets w h)))
      (fair_raise refl (λ c h. omega arith))

  -- and leaves the cells at their level that are marked, which are none
  band-stays : Stays (marked_by none) before (band_page_by code before v M start)
  band-stays =
      band-keeps start code before v M b (Stays (marked_by none) before)
      (λ w h. write-stays none house code band_bytes band_strips before (value_bytes w) (value-octets w h)
      (wrote_by start none house code band_bytes band_strips before (value_bytes w) (value-octets w h)))
      (record { size = refl; same = λ c h m. refl })

-- A PUT in order speaks of all cells of its block
module _ (start : ℕ → ℕ) (code L S P : ℕ) (before content : List ℕ) (b : Octets content) where
  inside-block : ground_of_put code L S P before content ≡ none → (c : ℕ) → c < cells_on before → c < block_cells L S P
  unfolding cells_on
  inside-block e c h =
      block-cell L S P before (put-in-order code L S P (length before) (length content) e).block-is c (omega arith)

  -- a put lowers no cell and keeps the block's length, whatever its answer
  put-fair : (base : ℕ) → Fair base before (raised (block_by code L S P before content start))
  put-fair base = go (put-kept start code L S P before content b)
    where
      go : {after : List ℕ} {r : Answer} → PutPromised code L S P before content start (ground_of_put code L S P before content) after r
          → Fair base before (raised after)
      go (put-done f i p) = fair_raise p.could.size (λ c h. p.could.no_lower c (inside-block f c h))
      go {after = after} (no_page f n k) = fair_raise {after = after} (ap length k) (λ c h. rw k (omega arith))
      go {after = after} (put_refused f k) = fair_raise {after = after} (ap length k) (λ c h. rw k (omega arith))

  -- and leaves the cells at their level that are marked, which are none
  put-stays : Stays (marked_by none) before (block_by code L S P before content start)
  put-stays = record { size = (put-rises start code L S P before content b).0; same = λ c h m. absurd (false≢true m) }

-- so every call under the marks is a fair event
pub call-fair : (start : ℕ → ℕ) (marks : ℕ → Bool) (page : List ℕ) {c : Call} → Marking (cells_on page) marks c
    → Fair (marked_levels marks page) page (event_of start c page)
unfolding event_of
call-fair start marks page (writes {map} {W} {code} {L} {S} {content} {b} m) =
    write-fair map W code L S page content b (marked_levels marks page) (wrote_by start map W code L S page content b)
call-fair start marks page (lists {map} {W} {code} {L} {S} {count} {content} {b} m) =
    list-fair start map W code L S count page content b (marked_levels marks page)
call-fair start marks page (bands {code} {v} {M} {b} m) = band-fair start code page v M b (marked_levels marks page)
call-fair start marks page (erases {map} {L} {S} {tenths} m) = go (erasing map L S tenths page)
  where
    go : (g : Option Refusal) → Fair (marked_levels marks page) page (kept g (erased (emptied (marked_by map) page)) looked)
    go none = fair_erase (erase-leaves marks map page m)
    go (some r) = fair_look
call-fair start marks page (puts {code} {L} {S} {P} {content} {b} m) = put-fair start code L S P page content b (marked_levels marks page)
call-fair start marks page (block_erases {L} {S} {P} {tenths} m) = go (block_erasing L S P (length page) tenths)
  where
    go : (g : Option Refusal) → Fair (marked_levels marks page) page (kept g (erased (replicate (length page) 0)) looked)
    go none = fair_erase (rw (emptied-none page) at (erase-leaves marks none page m))
    go (some r) = fair_look
call-fair start marks page looks = fair_look

-- cells marked by a map that marks these
stays_by : {marks other : ℕ → Bool} {before after : List ℕ} → ((c : ℕ) → c < cells_on before → other c ≡ marks c)
    → Stays other before after → Stays marks before after
stays_by m s = record { size = s.size; same = λ c h k. s.same c h (m c h ∙ k) }

-- after which the marked cells are at their level
pub call_stays : (start : ℕ → ℕ) (marks : ℕ → Bool) (page : List ℕ) {c : Call} → Marking (cells_on page) marks c
    → Stays marks page (page_after (event_of start c page) page)
unfolding event_of
call_stays start marks page (writes {map} {W} {code} {L} {S} {content} {b} m) =
    stays_by m (write-stays map W code L S page content b (wrote_by start map W code L S page content b))
call_stays start marks page (lists {map} {W} {code} {L} {S} {count} {content} {b} m) =
    stays_by m (list-stays start map W code L S count page content b)
call_stays start marks page (bands {code} {v} {M} {b} m) = stays_by m (band-stays start code page v M b)
call_stays start marks page (erases {map} {L} {S} {tenths} m) = go (erasing map L S tenths page)
  where
    go : (g : Option Refusal) → Stays marks page (page_after (kept g (erased (emptied (marked_by map) page)) looked) page)
    go none = record {
      size = emptied-length (marked_by map) page;
      same = λ c h k. emptied-kept (marked_by map) page c (m c h ∙ k);
    }
    go (some r) = record { size = refl; same = λ c h k. refl }
call_stays start marks page (puts {code} {L} {S} {P} {content} {b} m) = stays_by m (put-stays start code L S P page content b)
call_stays start marks page (block_erases {L} {S} {P} {tenths} m) = go (block_erasing L S P (length page) tenths)
  where
    go : (g : Option Refusal) → Stays marks page (page_after (kept g (erased (replicate (length page) 0)) looked) page)
    go none = record { size = length-replicate {A = ℕ} (length page) 0; same = λ c h k. absurd (false≢true (m c h ∙ k)) }
    go (some r) = record { size = refl; same = λ c h k. refl }
call_stays start marks page looks = record { size = refl; same = λ c h k. refl }

-- ANY SEQUENCE OF CALLS under one map: 'raises are counted from there under that one map'
pub ledger-from : (starts : ℕ → ℕ → ℕ) (marks : ℕ → Bool) (cs : List Call) (page : List ℕ) (n : ℕ)
    → Each (Marking (cells_on page) marks) cs → raises_of (cells_on page) page ≡ marked_levels marks page + n
    → raises_of (cells_on (played starts cs page)) (played starts cs page) ≡ marked_levels marks page + tallied starts cs page n
unfolding played tally
ledger-from starts marks [] page n a e = e
ledger-from starts marks (c ∷ cs) page n (and_each m a) e =
    let v = event_of (starts 0) c page in
    let s = call_stays (starts 0) marks page m in
    let l = stays-levels marks s in
    ledger-from (λ n. starts (suc n)) marks cs (page_after v page) (counted v page n)
    (rw (same-cells (page_after v page) page s.size) a)
    (counts (marked_levels marks page) n page (call-fair (starts 0) marks page m) e ∙ ap (λ (b : ℕ). b + counted v page n) (sym l))
    ∙ ap (λ (b : ℕ). b + tallied (λ n. starts (suc n)) cs (page_after v page) (counted v page n)) l

-- from a page whose unmarked cells are at level 0
pub ledger-marked : (starts : ℕ → ℕ → ℕ) (marks : ℕ → Bool) (cs : List Call) (page : List ℕ) → Each (Marking (cells_on page) marks) cs
    → ((c : ℕ) → c < cells_on page → marks c ≡ false → level page c ≡ 0)
    → raises_of (cells_on (played starts cs page)) (played starts cs page) ≡ marked_levels marks page + tallied starts cs page 0
unfolding raises_of marked_levels
ledger-marked starts marks cs page a z =
    ledger-from starts marks cs page 0 a (sum_of-same (cells_on page) _ _ (λ c h. go c (marks c) (z c h)) ∙ omega arith)
  where
    go : (c : ℕ) (b : Bool) → (b ≡ false → level page c ≡ 0) → level page c ≡ cond b (level page c) 0
    go c true e = refl
    go c false e = e refl

-- from an erased page of any length, with no cell marked
pub ledger : (starts : ℕ → ℕ → ℕ) (size : ℕ) (cs : List Call) → Each (Marking (cells_on (replicate size 0)) unmarked) cs
    → raises_of (cells_on (played starts cs (replicate size 0))) (played starts cs (replicate size 0))
    ≡ tallied starts cs (replicate size 0) 0
unfolding marked_levels
ledger starts size cs a =
    ledger-marked starts unmarked cs (replicate size 0) a (λ c h m. erased-level size c)
    ∙ omega (arith, sum_of-zero (cells_on (replicate size 0)) (λ c. 0) (λ c h. refl))
