-- A page reads as the data just where the data bits of each strip are those of its part.
--   cells_same                  a data bit of a strip depends on the strip's cells alone
--   read_by-bit                 bit t of strip j of what a page reads as
--   reads_of, reads_only        where the data bits are those of the data, and only there
--   read_by-length, part-read   what strip k reads as is part k of what the page reads as
--   parts-read                  bytes whose parts are those are what the page reads as
use mathlib.Core.Path.{◌≡◌, sym, ◌∙◌, ap, ap₂}
use mathlib.Core.List.{List}
use Prim.Native.Nat.{ℕ, ◌<◌, ◌+◌, ◌*◌, ◌/◌, ◌%◌}
use native.Mathlib.Omega.{arith}
use native.Mathlib.Nat.{div-add-mod}
use lib.ListN.{length}
use Rattle.cells.specs.Bytes.{bit_of, Octets}
use Rattle.cells.specs.Levels.{level}
use Rattle.cells.proofs.Bytes.{bytes_of-bit, bytes_of-same, bytes_bits, length-bytes_of, octets-bytes_of}
use Rattle.cells.proofs.Parts.{place-div, place-mod, place_inside, part-number, part-place}
use Rattle.codes.specs.Generators.{Generators}
use Rattle.codes.specs.Layouts.{Layout, stage_count, cell_count, byte_count}
use Rattle.codes.specs.Reading.{data_bit, read_strip}
use Rattle.codes.proofs.Layouts.{data_bit-bound, data_bit-same}
use Rattle.demand.specs.Jobs.{part, Whole}
use Rattle.demand.specs.Reading.{strip_levels, read_by}
use Rattle.demand.proofs.Jobs.{part_length, part-octets, part-data, part-level, parts_same}

-- a data bit of a strip by the levels of its cells depends on these cells
pub cells_same : (lay : Layout) (G : Generators) (L : ℕ) → Whole lay L → (v w : ℕ → ℕ) (t : ℕ) → t < 8 * L
    → ((c : ℕ) → c < cell_count lay L → v c ≡ w c) → data_bit lay G v t ≡ data_bit lay G w t
unfolding cell_count
cells_same lay G L F v w t h e =
    data_bit-same lay v w (stage_count lay L) e G t (part-number lay.bits (stage_count lay L) t (rw F.stages_fill h))

module _ (lay : Layout) (G : Generators) (L S : ℕ) (page : List ℕ) where
  -- bit t of strip j of what a page reads as is the strip's data bit t
  read_by-bit : (j : ℕ) → j < S → (t : ℕ) → t < 8 * L
      → bit_of (read_by lay G L S page) (8 * L * j + t) ≡ data_bit lay G (strip_levels (cell_count lay L) page j) t
  unfolding read_by
  read_by-bit j h t l =
      bytes_of-bit (L * S) _ (λ i. data_bit-bound lay G _ _) (8 * L * j + t) (omega (arith, place_inside (8 * L) j t l S h))
      ∙ ap₂ (λ (q r : ℕ). data_bit lay G (strip_levels (cell_count lay L) page q) r) (place-div (8 * L) j t l) (place-mod (8 * L) j t l)

  module _ (content : List ℕ) where
    -- where the data bits are those of the data
    pub reads_of : length content ≡ L * S → Octets content
        → ((j : ℕ) → j < S → (t : ℕ) → t < 8 * L → data_bit lay G (strip_levels (cell_count lay L) page j) t ≡ bit_of content (8 * L * j + t))
        → read_by lay G L S page ≡ content
    unfolding read_by
    reads_of e b f = bytes_of-same (L * S) _ (bit_of content) bit ∙ bytes_bits (L * S) content e (λ q h. b.below q (rw e h))
      where
        bit : (n : ℕ) → n < 8 * (L * S) → data_bit lay G (strip_levels (cell_count lay L) page (n / (8 * L))) (n % (8 * L)) ≡ bit_of content n
        bit n h =
            let k : n < 8 * L * S = omega arith in
            f (n / (8 * L)) (part-number (8 * L) S n k) (n % (8 * L)) (part-place (8 * L) S n k)
            ∙ ap (bit_of content) (div-add-mod n (8 * L))

    -- and only there
    pub reads_only : read_by lay G L S page ≡ content
        → (j : ℕ) → j < S → (t : ℕ) → t < 8 * L → data_bit lay G (strip_levels (cell_count lay L) page j) t ≡ bit_of content (8 * L * j + t)
    reads_only e j h t l = sym (read_by-bit j h t l) ∙ ap (λ (x : List ℕ). bit_of x (8 * L * j + t)) e

  -- STRIP BY STRIP. A page reads as L·S bytes
  read_by-length : length (read_by lay G L S page) ≡ L * S
  unfolding read_by
  read_by-length = length-bytes_of (L * S) _

  module _ (F : Whole lay L) where
    -- part k of what a page reads as is what strip k reads as
    pub part-read : (k : ℕ) → k < S → part L k (read_by lay G L S page) ≡ read_strip lay G L (part (byte_count lay L) k page)
    unfolding read_strip read_by strip_levels
    part-read k h =
        sym (bytes_bits L (part L k (read_by lay G L S page)) l (λ q m. o.below q (rw l m))) ∙ bytes_of-same L _ _ bit
      where
        l : length (part L k (read_by lay G L S page)) ≡ L
        l = part_length L S k _ read_by-length h

        o : Octets (part L k (read_by lay G L S page))
        o = part-octets L k _ (octets-bytes_of (L * S) _ (λ i. data_bit-bound lay G _ _))

        bit : (t : ℕ) → t < 8 * L → bit_of (part L k (read_by lay G L S page)) t ≡ data_bit lay G (level (part (byte_count lay L) k page)) t
        bit t m =
            part-data L k (read_by lay G L S page) t m ∙ read_by-bit k h t m
            ∙ cells_same lay G L F _ _ t m (λ c n. sym (part-level (cell_count lay L) (byte_count lay L) F.cells_fill k page c n))

    -- and L·S bytes whose parts are those are what the page reads as
    pub parts-read : (content : List ℕ) → length content ≡ L * S
        → ((k : ℕ) → k < S → part L k content ≡ read_strip lay G L (part (byte_count lay L) k page)) → content ≡ read_by lay G L S page
    parts-read content e f = parts_same L S content _ e read_by-length (λ k h. f k h ∙ sym (part-read k h))
