-- What a page's write cannot do, strip by strip.
--   strip-below      no strip's write costs as much as closed
--   own, own-level   the write of a strip, whose levels stand at their place among all
--   page-near        no cell rises by more than one
use mathlib.Core.Path.{◌≡◌, sym, ◌∙◌, ap}
use mathlib.Core.Bool.{Bool}
use mathlib.Core.List.{List}
use mathlib.Core.Option.{some}
use Prim.Native.Nat.{ℕ, suc, ◌<◌, ◌≤◌, ◌+◌, ◌*◌, ◌/◌, ◌%◌}
use native.Mathlib.Omega.{arith}
use native.Mathlib.Nat.{div-add-mod}
use lib.ListN.{length, drop}
use lib.Seq.{get_or-take, get_or-drop}
use Rattle.cells.specs.Levels.{level}
use Rattle.cells.proofs.Parts.{part-number, part-place}
use Rattle.codes.specs.Generators.{Generators}
use Rattle.codes.specs.Layouts.{one_bit, byte_count, cell_count}
use Rattle.search.specs.Best.{Solution}
use Rattle.search.specs.Strip.{Dear, steps_of}
use Rattle.search.specs.Levels.{level_at}
use Rattle.search.proofs.Best.{the-best}
use Rattle.search.proofs.Layouts.{strip-solves, strip-width}
use Rattle.stages.specs.Stage.{closed}
use Rattle.trellis.proofs.Ways.{Suits, suits-sound}
use Rattle.trellis.proofs.Plans.{strip-near, write-below}
use Rattle.demand.specs.Jobs.{part}
use Rattle.demand.specs.Computed.{strip_bytes, strip_write, page_write}
use Rattle.demand.proofs.Jobs.{part-level, one_bit-whole}
use Rattle.demand.proofs.Strips.{PartOf, all-each}
use Rattle.page_promises.specs.Writes.{one_bit_job}
use Rattle.page_parts.specs.Shape.{strip_part}

module _ (G : Generators) (W : List ℕ) (K : Suits G W) (D : Dear (steps_of W)) (L S : ℕ) (most : L ≤ 64)
    (before : List ℕ) (marks : ℕ → Bool) (content : List ℕ) where
  -- the marks of strip k
  abbrev strip_marks : ℕ → ℕ → Bool
  strip_marks k c = marks (cell_count one_bit L * k + c)

  -- no strip's write costs as much as closed
  pub strip-below : (k : ℕ) (a : Solution) → strip_write (one_bit_job marks G W L S before content) k ≡ some a → a.cost < closed
  unfolding strip_write strip_bytes
  strip-below k a e = write-below G W K D L (strip_part L k before) (strip_marks k) (part L k content) a e most

  -- a strip's write has a level for each cell
  strip-levels : (k : ℕ) (b : Solution) → strip_write (one_bit_job marks G W L S before content) k ≡ some b
      → length b.levels ≡ cell_count one_bit L
  unfolding strip_write strip_bytes
  strip-levels k b e =
      (strip-width one_bit L (strip_part L k before) (strip_marks k) G (suits-sound K) W (part L k content)).width _ _
      (the-best (rw e at (strip-solves one_bit L (strip_part L k before) (strip_marks k) G (suits-sound K) W (part L k content)))).valid

  module _ (a : Solution) (e : page_write (one_bit_job marks G W L S before content) ≡ some a) (k : ℕ) (h : k < S) where
    -- strip k's own write, whose levels stand at their place among all
    pub own : PartOf (strip_write (one_bit_job marks G W L S before content)) (cell_count one_bit L) (λ j. j) a k
    unfolding page_write
    own = all-each (strip_write (one_bit_job marks G W L S before content)) (cell_count one_bit L) strip-levels S (λ j. j) a e k h

    pub own-level : (i : ℕ) → i < cell_count one_bit L → level_at own.own.levels i ≡ level_at a.levels (cell_count one_bit L * k + i)
    unfolding level_at
    own-level i l =
        ap (λ (y : List ℕ). level_at y i) (sym own.levels-are)
        ∙ get_or-take (cell_count one_bit L) (drop (cell_count one_bit L * k) a.levels) i 0 l
        ∙ get_or-drop (cell_count one_bit L * k) a.levels i 0

  -- NO CELL RISES BY MORE THAN ONE
  pub page-near : (a : Solution) → page_write (one_bit_job marks G W L S before content) ≡ some a → (c : ℕ) → c < cell_count one_bit L * S
      → level_at a.levels c ≤ suc (level before c)
  unfolding strip_write strip_bytes
  page-near a e c h = rw (div-add-mod c n) at (near (c / n) (c % n) (part-number n S c h) (part-place n S c h))
    where
      n : ℕ
      n = cell_count one_bit L

      near : (k i : ℕ) → k < S → i < n → level_at a.levels (n * k + i) ≤ suc (level before (n * k + i))
      near k i h l =
          omega (
            arith,
            own-level a e k h i l,
            part-level n (byte_count one_bit L) (one_bit-whole L).cells_fill k before i l,
            strip-near G W K D L (strip_part L k before) (strip_marks k) (part L k content) (own a e k h).own (own a e k h).is i l,
          )
