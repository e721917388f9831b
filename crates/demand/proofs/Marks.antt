-- WHAT MARKS DO: to mark more cells leaves fewer pages, so it never makes a write cheaper, nor lets a spent page take the data; marks past
-- the page do nothing; and a page all of whose cells are marked takes only what it reads as. For any layout, code and weights.
--   remarked                a job with other marks
--   Fewer                   marks each of which is among some others
--   could-fewer             with more marks no more pages could be
--   cheapest-fewer          nor is the cheapest page cheaper
--   spent-more              a page that is spent stays so, at the same strip or a lower one (spent-lower)
--   SameMarks               marks that are the same on the page
--   write-marks             then the same is computed: the write of a strip, of the page (page-marks), and the spent strip (strip-marks)
--   stay-could              a page that reads as the data could stay as it is
--   free-stay, stay-page    and then it does, at no cost
--   all-marked              with every cell marked a page takes only what it reads as
use mathlib.Core.Path.{◌≡◌, refl, sym, ◌∙◌, ap₂}
use mathlib.Core.Logic.{⊎_elim}
use mathlib.Core.Bool.{Bool, true, false}
use mathlib.Core.List.{List}
use mathlib.Core.Option.{Option, none, some}
use Prim.Native.Nat.{ℕ, zero, suc, ◌<◌, ◌≤◌, ◌+◌, ◌*◌}
use native.Mathlib.Omega.{arith}
use lib.Dec.{ltb}
use lib.ListN.{length}
use borrow.Author.Tests.{ltb-true, ltb-false}
use Rattle.cells.specs.Places.{list_of}
use Rattle.cells.specs.Bytes.{Octets}
use Rattle.cells.specs.Levels.{level, SameLevels}
use Rattle.cells.specs.Climbs.{weight_of}
use Rattle.cells.proofs.Places.{same?}
use Rattle.cells.proofs.Levels.{levels-at}
use Rattle.cells.proofs.Raising.{raised_to-same, raised_to-none}
use Rattle.cells.proofs.Climbs.{cost-stay}
use Rattle.cells.proofs.Parts.{place_inside}
use Rattle.codes.specs.Layouts.{byte_count}
use Rattle.search.specs.Best.{Solution}
use Rattle.search.specs.Trellis.{joined, all, first-none}
use Rattle.search.proofs.Layouts.{rewrite-marks}
use Rattle.demand.specs.Jobs.{part, Job, width, page_cells, strip_job, InOrder}
use Rattle.demand.specs.Reading.{read_by}
use Rattle.demand.specs.Demand.{Could, job_cost, Cheapest, SpentAt}
use Rattle.demand.specs.Computed.{strip_bytes, strip_write, page_write, spent_strip}
use Rattle.demand.proofs.Demand.{page-cell}
use Rattle.demand.proofs.Orders.{read-levels}

-- A JOB with other marks
abbrev pub remarked : (ℕ → Bool) → Job → Job
remarked marks J = record {
  layout = J.layout;
  code = J.code;
  weights = J.weights;
  marks = marks;
  bytes = J.bytes;
  strips = J.strips;
  page = J.page;
  content = J.content;
}

-- MORE MARKS: every cell of the page that the few mark, the more mark too
pub record Fewer (J : Job) (few more : ℕ → Bool) : Type 0 where
  pub also : (c : ℕ) → c < page_cells J → few c ≡ true → more c ≡ true

module _ (J : Job) {few more : ℕ → Bool} (f : Fewer J few more) where
  -- with more marks no more pages could be
  pub could-fewer : {other : List ℕ} → Could (remarked more J) other → Could (remarked few J) other
  could-fewer p = record {
    size = p.size;
    reads = p.reads;
    no_lower = p.no_lower;
    marked_stay = λ c h m. p.marked_stay c h (f.also c h m);
  }

  -- nor is the cheapest page cheaper
  pub cheapest-fewer : {start start' : ℕ → ℕ} {x y : List ℕ} {a b : ℕ}
      → Cheapest start (remarked few J) x a → Cheapest start' (remarked more J) y b → a ≤ b
  unfolding job_cost
  cheapest-fewer {y = y} p q = omega (arith, p.least y (could-fewer q.could), q.paid)

  -- a spent page stays spent
  pub spent-more : {k : ℕ} → SpentAt (remarked few J) k → (other : List ℕ) → Could (remarked more J) other → ⊥
  spent-more s other p = s.no_page other (could-fewer p)

  -- the marks of strip k
  strip-fewer : (k : ℕ) → k < J.strips → Fewer (strip_job J k) (λ c. few (width J * k + c)) (λ c. more (width J * k + c))
  unfolding strip_job
  strip-fewer k h = record { also = λ c l. f.also _ (place_inside (width J) k c (omega arith) J.strips h) }

-- at the same strip or a lower one
pub spent-lower : (J : Job) {few more : ℕ → Bool} → Fewer J few more
    → {k j : ℕ} → SpentAt (remarked few J) k → SpentAt (remarked more J) j → j ≤ k
unfolding strip_job
spent-lower J f {k} {j} s t = go (ltb k j) refl
  where
    go : (b : Bool) → ltb k j ≡ b → j ≤ k
    go true e =
        let p = t.lowest k (ltb-true k j e) in
        absurd (s.no_pattern p.pattern (could-fewer (strip_job J k) (strip-fewer J f k s.inside) p.could))
    go false e = ltb-false k j e

-- THE SAME MARKS on every cell of the page
pub record SameMarks (J : Job) (a b : ℕ → Bool) : Type 0 where
  pub same : (c : ℕ) → c < page_cells J → a c ≡ b c

-- AS COMPUTED. All parts depend on each of them
module _ (f g : ℕ → Option Solution) where
  all_same : (n : ℕ) (h : ℕ → ℕ) → ((i : ℕ) → i < n → f (h i) ≡ g (h i)) → all f (list_of n h) ≡ all g (list_of n h)
  unfolding all list_of
  all_same zero h e = refl
  all_same (suc n) h e = ap₂ joined (e 0 (omega arith)) (all_same n (λ i. h (suc i)) (λ i l. e (suc i) (omega arith)))

  -- with the first that has none
  first-same : (n : ℕ) (h : ℕ → ℕ) → ((i : ℕ) → i < n → f (h i) ≡ g (h i)) → first-none f (list_of n h) ≡ first-none g (list_of n h)
  unfolding first-none list_of
  first-same zero h e = refl
  first-same (suc n) h e =
      ap₂ (λ (x : Option Solution) (r : ℕ). elim x [ none ↦ 0 | some a ↦ suc r ]) (e 0 (omega arith))
      (first-same n (λ i. h (suc i)) (λ i l. e (suc i) (omega arith)))

module _ (J : Job) {a b : ℕ → Bool} (s : SameMarks J a b) where
  -- the same write of strip k
  pub write-marks : (k : ℕ) → k < J.strips → strip_write (remarked a J) k ≡ strip_write (remarked b J) k
  unfolding strip_write strip_bytes
  write-marks k h =
      rewrite-marks J.layout J.code J.weights J.bytes (part (byte_count J.layout J.bytes) k J.page)
      (λ c. a (width J * k + c)) (λ c. b (width J * k + c)) (part J.bytes k J.content)
      (λ c l. s.same (width J * k + c) (place_inside (width J) k c l J.strips h))

  -- the same write of the page
  pub page-marks : page_write (remarked a J) ≡ page_write (remarked b J)
  unfolding page_write
  page-marks = all_same _ _ J.strips (λ k. k) write-marks

  -- the same strip that has none
  pub strip-marks : spent_strip (remarked a J) ≡ spent_strip (remarked b J)
  unfolding spent_strip
  strip-marks = first-same _ _ J.strips (λ k. k) write-marks

-- WHAT THE PAGE READS AS. A page that reads as the data could stay as it is, whatever is marked
pub stay-could : (J : Job) → read_by J.layout J.code J.bytes J.strips J.page ≡ J.content → Could J J.page
stay-could J e = record { size = refl; reads = e; no_lower = λ c h. omega arith; marked_stay = λ c h m. refl }

-- at no cost
stay-free : (J : Job) → job_cost J J.page ≡ 0
unfolding job_cost
stay-free J = cost-stay (weight_of J.weights) (page_cells J) J.page

module _ (J : Job) (I : InOrder J) (p : Could J J.page) {start : ℕ → ℕ} {after : List ℕ} {cost : ℕ}
    (best : Cheapest start J after cost) where
  -- a write of what the page reads as costs nothing, and raises no cell
  pub free-stay : (cost ≡ 0) × SameLevels after J.page
  free-stay = (none-paid, record { size = best.could.size; same = λ c h. ⊎_elim (λ e. e) (not-other c h) (same? _ _) })
    where
      none-paid : cost ≡ 0
      none-paid = omega (arith, best.least J.page p, stay-free J)

      -- another page of that cost would be lower at some cell
      not-other : (c : ℕ) → 3 * c < 8 * length after → (level after c ≡ level J.page c → ⊥) → level after c ≡ level J.page c
      not-other c h n =
          let i : c < page_cells J = page-cell J I c (omega (arith, best.could.size)) in
          let f = best.among_equals J.page p (stay-free J ∙ sym none-paid) c i n in
          absurd (let z : ⊥ = omega (arith, f.lower, best.could.no_lower f.cell f.inside) in z)

  -- so the page is as it was, byte for byte
  pub stay-page : Octets J.page → after ≡ J.page
  stay-page o =
      best.raised ∙ raised_to-same _ J.page _ _ (λ c h. levels-at free-stay.1 c) ∙ raised_to-none _ J.page o

-- EVERY CELL MARKED: the page takes only what it reads as, and stays at its levels
pub all-marked : (J : Job) → InOrder J → ((c : ℕ) → c < page_cells J → J.marks c ≡ true) → {other : List ℕ} → Could J other
    → (read_by J.layout J.code J.bytes J.strips J.page ≡ J.content) × SameLevels other J.page
all-marked J I m {other} p = (sym (read-levels J.layout J.code J.bytes J.strips stays) ∙ p.reads, stays)
  where
    stays : SameLevels other J.page
    stays = record {
      size = p.size;
      same = λ c h. let i : c < page_cells J = page-cell J I c (omega (arith, p.size)) in p.marked_stay c i (m c i);
    }
