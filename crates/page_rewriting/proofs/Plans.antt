-- Planned and carried out, strip by strip, the page is the one of the computed write.
--   write_same     the write of a strip, as the functions of a strip speak of it
--   carried-page   the page after carrying out
use mathlib.Core.Path.{◌≡◌, sym, ◌∙◌, ap}
use mathlib.Core.List.{List}
use mathlib.Core.Option.{some}
use Prim.Native.Nat.{ℕ, ◌<◌, ◌≤◌, ◌+◌, ◌*◌}
use native.Mathlib.Omega.{arith}
use lib.ListN.{length}
use Rattle.cells.specs.Marks.{marks_in}
use Rattle.cells.specs.Raising.{start_of, start_in, raised_to}
use Rattle.cells.proofs.Raising.{raised_to-length, raised_to-same, raised_to-start, start-in-strip}
use Rattle.codes.specs.Generators.{Generators}
use Rattle.codes.specs.Layouts.{one_bit, byte_count, cell_count, map_count}
use Rattle.codes.proofs.Layouts.{one_bit-cells, one_bit-map}
use Rattle.search.specs.Best.{Solution}
use Rattle.search.specs.Strip.{Dear, steps_of}
use Rattle.search.specs.Levels.{level_at}
use Rattle.search.specs.Layouts.{rewrite_of}
use Rattle.search.proofs.Layouts.{rewrite-marks}
use Rattle.carrying.specs.Carrying.{digit_in, carried_to}
use Rattle.trellis.specs.Plans.{write_of}
use Rattle.trellis.proofs.Ways.{Suits}
use Rattle.demand.specs.Jobs.{part}
use Rattle.demand.specs.Computed.{strip_bytes, strip_write, page_write}
use Rattle.demand.proofs.Jobs.{part_length, part-marks, part-raised, parts_same, one_bit-whole}
use Rattle.page_promises.specs.Writes.{one_bit_job}
use Rattle.page_parts.specs.Shape.{map_part, strip_part}
use Rattle.page_rewriting.specs.Plans.{Planned, Carried}
use Rattle.page_promises.proofs.Plans.{own, own-level}

-- a cell of strip k is marked by the strip's part of the map
part-marked : (L k : ℕ) (map : List ℕ) (c : ℕ) → c < cell_count one_bit L
    → marks_in (map_part L k map) c ≡ marks_in map (cell_count one_bit L * k + c)
part-marked L k map c h =
    let e : 8 * map_count one_bit L ≡ cell_count one_bit L = omega (arith, one_bit-map L, one_bit-cells L) in
    part-marks (map_count one_bit L) k map c (omega arith) ∙ ap (λ (n : ℕ). marks_in map (n * k + c)) e

-- THE PROGRAM speaks of each strip by its own part of the map
module _ (G : Generators) (W : List ℕ) (K : Suits G W) (D : Dear (steps_of W)) (L S : ℕ) (most : L ≤ 64)
    (before map content : List ℕ) where
  -- the write of strip k, as the functions of a strip speak of it
  pub write_same : (k : ℕ) → length (part L k content) ≡ L
      → write_of G W (strip_part L k before) (marks_in (map_part L k map)) (part L k content)
      ≡ strip_write (one_bit_job (marks_in map) G W L S before content) k
  unfolding strip_write strip_bytes
  write_same k e =
      ap (λ (n : ℕ). rewrite_of one_bit G W n (strip_part L k before) (marks_in (map_part L k map)) (part L k content)) e
      ∙ rewrite-marks one_bit G W L (strip_part L k before) _ _ (part L k content) (λ c h. part-marked L k map c h)

  -- THE PAGE AFTER IT, where there is a write
  pub carried-page : length before ≡ byte_count one_bit L * S → length content ≡ L * S → (digits after : List ℕ) (a : Solution)
      → page_write (one_bit_job (marks_in map) G W L S before content) ≡ some a → Planned G W L S before map content digits
      → Carried G L S before content digits after
      → after ≡ raised_to (start_in start_of (cell_count one_bit L)) before (level_at a.levels)
  carried-page size fill digits after a e p c =
      parts_same b S after (raised_to (start_in start_of n) before (level_at a.levels)) (c.same_size ∙ size)
      (raised_to-length (start_in start_of n) before _ ∙ size) strip
    where
      n : ℕ
      n = cell_count one_bit L

      b : ℕ
      b = byte_count one_bit L

      -- a cell of strip k
      cell : (k : ℕ) → k < S → (i : ℕ) → 3 * i < 8 * length (strip_part L k before) → i < n
      cell k h i l = omega (arith, part_length b S k before size h, (one_bit-whole L).cells_fill)

      strip : (k : ℕ) → k < S → part b k after ≡ part b k (raised_to (start_in start_of n) before (level_at a.levels))
      strip k h =
          c.carried k h
          ∙ raised_to-same start_of (strip_part L k before) _ (λ i. level_at a.levels (n * k + i)) (λ i l. level-is i (cell k h i l))
          ∙ raised_to-start start_of (λ i. start_in start_of n (n * k + i))
          (strip_part L k before) _ (λ i l. sym (start-in-strip start_of n k i (cell k h i l)))
          ∙ sym (part-raised n b (one_bit-whole L).cells_fill k before (start_in start_of n) (level_at a.levels) S size h)
        where
          long : length (part L k content) ≡ L
          long = part_length L S k content fill h

          level-is : (i : ℕ) → i < n → carried_to G (strip_part L k before) (part L k content) (digit_in (part L k digits)) i
              ≡ level_at a.levels (n * k + i)
          level-is i l =
              (p.planned a e k h).leads (own G W K D L S most before (marks_in map) content a e k h).own
              (write_same k long ∙ (own G W K D L S most before (marks_in map) content a e k h).is) i (rw long l)
              ∙ own-level G W K D L S most before (marks_in map) content a e k h i l
