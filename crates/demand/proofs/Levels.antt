-- The levels of a page: what the strips' problems admit, one after the other, is what reads as the data with no level lowered and marked
-- cells kept, by the page's places.
--   strip_problem   the writes of strip k
--   PageLevels      levels of all cells of a page that could be
--   problem-width   every write of a strip has a level for each cell
--   levels-all      levels that the page admits are valid for all strips, at the sum of their climbs
--   all-levels      and what is valid for all strips the page admits
use mathlib.Core.Path.{◌≡◌, sym, ◌∙◌, ap, ap₂}
use mathlib.Core.Bool.{Bool, true}
use mathlib.Core.List.{List}
use Prim.Native.Nat.{ℕ, ◌<◌, ◌≤◌, ◌+◌, ◌*◌, ◌/◌, ◌%◌}
use native.Mathlib.Omega.{arith}
use native.Mathlib.Nat.{div-add-mod}
use lib.ListN.{length, take, drop, length-drop}
use lib.Seq.{get_or-take, get_or-drop, length-take-le}
use Rattle.cells.specs.Places.{list_of, sum_of}
use Rattle.cells.specs.Bytes.{bit_of}
use Rattle.cells.specs.Levels.{level}
use Rattle.cells.specs.Climbs.{climb, weight_of}
use Rattle.cells.proofs.Places.{sum_of-same, sum_of-parts}
use Rattle.cells.proofs.Bytes.{bit-bound}
use Rattle.cells.proofs.Parts.{within, place_inside, part-number, part-place}
use Rattle.codes.specs.Layouts.{stage_count, cell_count, byte_count}
use Rattle.codes.specs.Reading.{data_bit}
use Rattle.codes.specs.Encoders.{encoder_of}
use Rattle.search.specs.Best.{Problem, Width, All}
use Rattle.search.specs.Strip.{Cell, steps_of, Rise, Rewrite}
use Rattle.search.specs.Levels.{cell_at, level_at, CouldBe, pays}
use Rattle.search.specs.Layouts.{meaning_of, data_bits, strip_cells, Sound}
use Rattle.search.proofs.Levels.{cells_at, raised-pays}
use Rattle.search.proofs.Layouts.{could-rewrite, rewrite-could, length-strip, strip-width}
use Rattle.demand.specs.Jobs.{part, Job, width, page_cells, Whole}
use Rattle.demand.specs.Computed.{strip_bytes}
use Rattle.demand.proofs.Jobs.{part-data, part-level}
use Rattle.demand.proofs.Reading.{cells_same}
use Rattle.demand.proofs.Strips.{Parts, all-parts, parts_all}

-- the marks of strip k
abbrev pub marks_of : Job → ℕ → ℕ → Bool
marks_of J k c = J.marks (width J * k + c)

-- the cells of strip k
abbrev pub job_cells : Job → ℕ → List Cell
job_cells J k = strip_cells J.layout J.bytes (strip_bytes J k) (marks_of J k)

-- the writes of strip k
unfoldable pub strip_problem : Job → ℕ → Problem
strip_problem J k =
    Rewrite (steps_of J.weights) (meaning_of J.layout) (encoder_of J.code) (data_bits J.layout (part J.bytes k J.content))
    (stage_count J.layout J.bytes) (job_cells J k)

-- what levels v of all cells cost
abbrev pub climbs : Job → (ℕ → ℕ) → ℕ → ℕ
climbs J v c = climb (weight_of J.weights) (level J.page c) (v c)

-- levels v of all cells of a page: none lower than before, none above 3, marked cells at their level, and each strip reads as its part of
-- the data
pub record PageLevels (J : Job) (v : ℕ → ℕ) : Type 0 where
  pub up : (c : ℕ) → c < page_cells J → level J.page c ≤ v c
  pub high : (c : ℕ) → c < page_cells J → v c ≤ 3
  pub marked_stays : (c : ℕ) → c < page_cells J → J.marks c ≡ true → v c ≡ level J.page c
  pub reads : (j : ℕ) → j < J.strips → (t : ℕ) → t < 8 * J.bytes
      → data_bit J.layout J.code (λ c. v (width J * j + c)) t ≡ bit_of J.content (8 * J.bytes * j + t)

module _ (J : Job) (Z : Sound J.layout J.code) (F : Whole J.layout J.bytes) where
  -- cell i of strip k, by the page
  cell-level : (k i : ℕ) → i < width J → (cell_at (job_cells J k) i).level ≡ level J.page (width J * k + i)
  unfolding strip_cells strip_bytes
  cell-level k i h = ap (λ (x : Cell). x.level) (cells_at (width J) _ _ i h)
      ∙ part-level (width J) (byte_count J.layout J.bytes) F.cells_fill k J.page i h

  cell-mark : (k i : ℕ) → i < width J → (cell_at (job_cells J k) i).mark ≡ J.marks (width J * k + i)
  unfolding strip_cells
  cell-mark k i h = ap (λ (x : Cell). x.mark) (cells_at (width J) _ _ i h)

  strip-size : (k : ℕ) → length (job_cells J k) ≡ J.layout.cells * stage_count J.layout J.bytes
  unfolding cell_count
  strip-size k = length-strip J.layout J.bytes (strip_bytes J k) (marks_of J k)

  -- a write of a strip is what could be, at what it pays
  problem-could : (k c : ℕ) (y : List ℕ) → strip_problem J k c y
      → CouldBe (steps_of J.weights) J.layout J.code (stage_count J.layout J.bytes) (bit_of (part J.bytes k J.content))
      (job_cells J k) y
      × (pays (steps_of J.weights) (job_cells J k) y ≡ c)
  unfolding strip_problem data_bits
  problem-could k c y w = (
    rewrite-could (steps_of J.weights) J.layout J.code Z
        (stage_count J.layout J.bytes) _ (bit-bound (part J.bytes k J.content)) (job_cells J k) (strip-size k) c y w,
    raised-pays (steps_of J.weights) w.raised,
  )

  -- and the other way
  could-problem : (k : ℕ) (y : List ℕ)
      → CouldBe (steps_of J.weights) J.layout J.code (stage_count J.layout J.bytes) (bit_of (part J.bytes k J.content))
      (job_cells J k) y
      → strip_problem J k (pays (steps_of J.weights) (job_cells J k) y) y
  unfolding strip_problem data_bits
  could-problem k y p =
      could-rewrite (steps_of J.weights) J.layout J.code Z
      (stage_count J.layout J.bytes) _ (bit-bound (part J.bytes k J.content)) (job_cells J k) (strip-size k) y p

  -- every write of a strip has a level for each cell
  pub problem-width : (k : ℕ) → Width (width J) (strip_problem J k)
  unfolding strip_problem
  problem-width k =
      strip-width J.layout J.bytes (strip_bytes J k) (marks_of J k) J.code Z J.weights (part J.bytes k J.content)

  -- strip j's levels among all levels y
  own : List ℕ → ℕ → List ℕ
  own y j = take (width J) (drop (width J * j) y)

  own-level : (y : List ℕ) (j c : ℕ) → c < width J → level_at (own y j) c ≡ level_at y (width J * j + c)
  unfolding level_at own
  own-level y j c h = get_or-take (width J) (drop (width J * j) y) c 0 h ∙ get_or-drop (width J * j) y c 0

  -- what strip j pays
  own-pays : (y : List ℕ) (j : ℕ)
      → pays (steps_of J.weights) (job_cells J j) (own y j) ≡ sum_of (width J) (λ c. climbs J (level_at y) (width J * j + c))
  unfolding pays cell_count
  own-pays y j =
      ap (λ (n : ℕ). sum_of n (λ i. climb (weight_of J.weights) (cell_at (job_cells J j) i).level (level_at (own y j) i))) (strip-size j)
      ∙ sum_of-same (width J) _ _ (λ c h. ap₂ (climb (weight_of J.weights)) (cell-level j c h) (own-level y j c h))

  -- levels that the page admits are valid for all strips, at the sum of their climbs
  pub levels-all : (y : List ℕ) → length y ≡ page_cells J → PageLevels J (level_at y)
      → All (strip_problem J) (list_of J.strips (λ k. k)) (sum_of (page_cells J) (climbs J (level_at y))) y
  unfolding own cell_count
  levels-all y e p =
      rw (sum_of-parts (width J) J.strips (climbs J (level_at y)))
      (parts_all (strip_problem J) (width J) J.strips (λ k. k) (λ j. sum_of (width J) (λ c. climbs J (level_at y) (width J * j + c))) y e
      valid)
    where
      -- cell i of strip j rises
      rises : (j : ℕ) → j < J.strips → (i : ℕ) → i < width J → Rise (steps_of J.weights) (cell_at (job_cells J j) i) (level_at (own y j) i)
      rises j h i m =
          let n : width J * j + i < page_cells J = place_inside (width J) j i m J.strips h in
          rw (own-level y j i m) (record {
            up = omega (arith, p.up (width J * j + i) n, cell-level j i m);
            high = p.high (width J * j + i) n;
            marked_stays = λ q. p.marked_stays (width J * j + i) n (sym (cell-mark j i m) ∙ q) ∙ sym (cell-level j i m);
          })

      valid : (j : ℕ) → j < J.strips → strip_problem J j (sum_of (width J) (λ c. climbs J (level_at y) (width J * j + c))) (own y j)
      valid j h = rw (own-pays y j) at (could-problem j (own y j) (record {
        size = length-take-le (width J) (drop (width J * j) y)
            (omega (arith, length-drop (width J * j) y, within (width J) j J.strips h)) ∙ sym (strip-size j);
        rises = λ i k. rises j h i (rw (strip-size j) at k);
        reads = λ t k.
            let l : t < 8 * J.bytes = rw F.stages_fill at k in
            cells_same J.layout J.code J.bytes F _ _ t l (λ c m. own-level y j c m) ∙ p.reads j h t l
            ∙ sym (part-data J.bytes j J.content t l);
      }))

  -- and what is valid for all strips the page admits
  pub all-levels : (c : ℕ) (y : List ℕ) → All (strip_problem J) (list_of J.strips (λ k. k)) c y
      → (length y ≡ page_cells J) × PageLevels J (level_at y) × (c ≡ sum_of (page_cells J) (climbs J (level_at y)))
  unfolding own cell_count
  all-levels c y a = (
    q.size,
    record {
      up = λ c h. by_place c h (λ i. level J.page i ≤ level_at y i)
          (λ j i m n. omega (arith, (rises j i m n).up, own-level y j i n, cell-level j i n));
      high = λ c h. by_place c h (λ i. level_at y i ≤ 3) (λ j i m n. omega (arith, (rises j i m n).high, own-level y j i n));
      marked_stays = λ c h. by_place c h (λ i. J.marks i ≡ true → level_at y i ≡ level J.page i) (λ j i m n k.
          sym (own-level y j i n) ∙ (rises j i m n).marked_stays (cell-mark j i n ∙ k) ∙ cell-level j i n);
      reads = λ j h t l. cells_same J.layout J.code J.bytes F _ _ t l (λ c m. sym (own-level y j c m))
          ∙ (could j h).0.reads t (rw F.stages_fill l) ∙ part-data J.bytes j J.content t l;
    },
    q.sum ∙ sum_of-same J.strips _ _ (λ j h. sym (could j h).1 ∙ own-pays y j)
        ∙ sym (sum_of-parts (width J) J.strips (climbs J (level_at y))),
  )
    where
      q : Parts (strip_problem J) (width J) J.strips (λ k. k) c y
      q = all-parts (strip_problem J) (width J) problem-width J.strips (λ k. k) c y a

      could : (j : ℕ) → j < J.strips
          → CouldBe (steps_of J.weights) J.layout J.code (stage_count J.layout J.bytes)
          (bit_of (part J.bytes j J.content))
          (job_cells J j) (own y j)
          × (pays (steps_of J.weights) (job_cells J j) (own y j) ≡ q.costs j)
      could j h = problem-could j (q.costs j) (own y j) (q.valid j h)

      -- cell i of strip j rises
      rises : (j i : ℕ) → j < J.strips → i < width J → Rise (steps_of J.weights) (cell_at (job_cells J j) i) (level_at (own y j) i)
      rises j i h m = (could j h).0.rises i (rw (strip-size j) m)

      -- what holds of every cell of every strip holds of every cell of the page
      by_place : (c : ℕ) → c < page_cells J → (P : ℕ → Type 0) → ((j i : ℕ) → j < J.strips → i < width J → P (width J * j + i)) → P c
      by_place c h P f =
          rw (div-add-mod c (width J)) at
          (f (c / width J) (c % width J) (part-number (width J) J.strips c h) (part-place (width J) J.strips c h))
