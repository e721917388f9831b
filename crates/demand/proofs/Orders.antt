-- WHAT DEPENDS ON THE LEVELS OF A PAGE ALONE, whichever bits are the ones: what it reads as, which pages could be, what a write costs and
-- the levels that it leaves, and the strip at which it is spent. So it is the same wherever the raises of a cell start, in whatever order
-- the releases set the bits. For any layout, code, weights and marks.
--   read-levels       what a page reads as
--   on_page           a job with another page
--   not-both          two pages cannot each be the lower one
--   could-levels      which pages could be
--   cheapest-levels   the cost and the levels of the cheapest page
--   spent-levels      the strip at which a page is spent
use mathlib.Core.Path.{◌≡◌, sym, ◌∙◌, ap, fun_ext}
use mathlib.Core.Logic.{⊎_elim}
use mathlib.Core.List.{List}
use Prim.Native.Nat.{ℕ, ◌<◌, ◌+◌, ◌*◌, ◌/◌, ◌%◌}
use native.Mathlib.Omega.{arith, ne_cases}
use lib.ListN.{length}
use Rattle.cells.specs.Bytes.{bytes_of}
use Rattle.cells.specs.Levels.{level, SameLevels}
use Rattle.cells.specs.Climbs.{climb, cost_of, weight_of}
use Rattle.cells.proofs.Places.{same?, sum_of-same}
use Rattle.cells.proofs.Levels.{levels-at, levels-sym, levels-self}
use Rattle.codes.specs.Generators.{Generators}
use Rattle.codes.specs.Layouts.{Layout, cell_count, byte_count}
use Rattle.codes.specs.Reading.{data_bit}
use Rattle.demand.specs.Jobs.{part, Job, width, page_cells, strip_job, InOrder}
use Rattle.demand.specs.Reading.{strip_levels, read_by}
use Rattle.demand.specs.Demand.{Could, LowerAtFirst, job_cost, Cheapest, SpentAt}
use Rattle.demand.proofs.Jobs.{part_length, part-level}
use Rattle.demand.proofs.Demand.{page-cell}

-- READING. What a page reads as
pub read-levels : (lay : Layout) (G : Generators) (L S : ℕ) {x y : List ℕ} → SameLevels x y → read_by lay G L S x ≡ read_by lay G L S y
unfolding read_by strip_levels
read-levels lay G L S s =
    ap
    (λ (v : ℕ → ℕ). bytes_of (L * S) (λ n. data_bit lay G (λ c. v (cell_count lay L * (n / (8 * L)) + c)) (n % (8 * L))))
    (fun_ext (levels-at s))

-- A JOB with another page
abbrev pub on_page : List ℕ → Job → Job
on_page page J = record {
  layout = J.layout;
  code = J.code;
  weights = J.weights;
  marks = J.marks;
  bytes = J.bytes;
  strips = J.strips;
  page = page;
  content = J.content;
}

-- two pages cannot each be the lower one at the first cell where they differ
pub not-both : {n : ℕ} {x y : List ℕ} → LowerAtFirst n x y → LowerAtFirst n y x → ⊥
not-both {x = x} {y = y} a b =
    ⊎_elim
    (λ e. omega (arith, a.lower, b.lower, ap (level x) e, ap (level y) e))
    (λ d.
    ne_cases a.cell b.cell ⊥ d
    (λ l. omega (arith, a.lower, b.same a.cell l))
    (λ l. omega (arith, b.lower, a.same b.cell l)))
    (same? a.cell b.cell)

module _ (J : Job) {p q : List ℕ} (s : SameLevels p q) where
  -- the pages that could be
  pub could-levels : {x y : List ℕ} → SameLevels x y → Could (on_page p J) x → Could (on_page q J) y
  could-levels t c = record {
    size = sym t.size ∙ c.size ∙ s.size;
    reads = sym (read-levels J.layout J.code J.bytes J.strips t) ∙ c.reads;
    no_lower = λ i h. omega (arith, c.no_lower i h, levels-at s i, levels-at t i);
    marked_stay = λ i h m. sym (levels-at t i) ∙ c.marked_stay i h m ∙ levels-at s i;
  }

  -- what a change costs
  cost-levels : (x : List ℕ) → job_cost (on_page p J) x ≡ job_cost (on_page q J) x
  unfolding job_cost cost_of
  cost-levels x =
      sum_of-same (page_cells J) _ _ (λ c h. ap (λ (l : ℕ). climb (weight_of J.weights) l (level x c)) (levels-at s c))

module _ (J : Job) {p q : List ℕ} (s : SameLevels p q) (I : InOrder (on_page p J)) where
  -- THE CHEAPEST PAGE, in whatever order each of the two was raised: one cost, and the same levels
  pub cheapest-levels : {start start' : ℕ → ℕ} {x y : List ℕ} {a b : ℕ}
      → Cheapest start (on_page p J) x a → Cheapest start' (on_page q J) y b → (a ≡ b) × SameLevels x y
  cheapest-levels {x = x} {y = y} {a = a} {b = b} c d = (
    one-cost,
    record {
      size = c.could.size ∙ s.size ∙ sym d.could.size;
      same = λ i h. ⊎_elim (λ e. e) (λ n. absurd (not-both (first i h n) (second i h n))) (same? (level x i) (level y i));
    },
  )
    where
      -- either page could be the other's
      x-could : Could (on_page q J) x
      x-could = could-levels J s levels-self c.could

      y-could : Could (on_page p J) y
      y-could = could-levels J (levels-sym s) levels-self d.could

      -- so neither costs more
      one-cost : a ≡ b
      one-cost = omega (arith, c.least y y-could, d.least x x-could, c.paid, d.paid, cost-levels J s x, cost-levels J s y)

      -- a cell where they differ would make both lower at the first such cell
      cell : (i : ℕ) → 3 * i < 8 * length x → i < page_cells J
      cell i h = page-cell (on_page p J) I i (omega (arith, c.could.size))

      first : (i : ℕ) → 3 * i < 8 * length x → (level x i ≡ level y i → ⊥) → LowerAtFirst (page_cells J) x y
      first i h n = c.among_equals y y-could (cost-levels J s y ∙ d.paid ∙ sym one-cost) i (cell i h) n

      second : (i : ℕ) → 3 * i < 8 * length x → (level x i ≡ level y i → ⊥) → LowerAtFirst (page_cells J) y x
      second i h n = d.among_equals x x-could (sym (cost-levels J s x) ∙ c.paid ∙ one-cost) i (cell i h) (λ e. n (sym e))

  -- the bytes of a strip
  abbrev size : ℕ
  size = byte_count J.layout J.bytes

  -- the parts of strip k
  part-levels : (k : ℕ) → k < J.strips → SameLevels (part size k p) (part size k q)
  part-levels k h = record {
    size = long ∙ sym (part_length size J.strips k q (sym s.size ∙ I.page_is) h);
    same = λ c l. let i : c < width J = omega (arith, long, I.whole.cells_fill) in in-part p c i ∙ levels-at s _ ∙ sym (in-part q c i);
  }
    where
      long : length (part size k p) ≡ size
      long = part_length size J.strips k p I.page_is h

      in-part : (page : List ℕ) (c : ℕ) → c < width J → level (part size k page) c ≡ level page (width J * k + c)
      in-part page c i = part-level (width J) size I.whole.cells_fill k page c i

  -- THE STRIP at which a page is spent
  pub spent-levels : {k : ℕ} → SpentAt (on_page p J) k → SpentAt (on_page q J) k
  unfolding strip_job
  spent-levels {k} a = record {
    inside = a.inside;
    no_page = λ other c. a.no_page other (could-levels J (levels-sym s) levels-self c);
    no_pattern = λ other c. a.no_pattern other (could-levels (strip_job J k) (levels-sym (part-levels k a.inside)) levels-self c);
    lowest = λ j h.
        let f = a.lowest j h in
        let t = part-levels j (omega (arith, a.inside)) in
        record { pattern = f.pattern; could = could-levels (strip_job J j) t levels-self f.could };
  }
