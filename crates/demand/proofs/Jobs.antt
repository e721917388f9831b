-- Parts of a page and of its data: their lengths, their cells and their bits are those of the whole, and a page raised is its strips
-- raised.
--   part_length, part-octets   a part has its bytes
--   part-data                  its data bits are those of the data
--   part_at, parts_same        the same parts, the same list
--   part-marks                 the marks of strip k by its part of the map
--   part-level                 cell c of strip k is cell n·k + c of the page
--   part-raised                strip k of a page raised is strip k raised
--   one_bit-whole              every L goes with one bit a cell
use mathlib.Core.Path.{◌≡◌, sym, ◌∙◌, ap, ap₂}
use mathlib.Core.List.{List, [], ◌∷◌}
use Prim.Native.Nat.{ℕ, ◌<◌, ◌≤◌, ◌+◌, ◌*◌, ◌-◌, ◌/◌, ◌%◌}
use native.Mathlib.Omega.{arith}
use native.Mathlib.Nat.{mul_assoc, div-add-mod}
use lib.Dec.{eqb}
use lib.ListN.{length, get_or, take, drop, length-take, length-drop}
use lib.Seq.{ext_get_or, get_or-take, get_or-drop, length-take-le}
use Rattle.cells.specs.Bytes.{bit_of, bytes_of, Octets}
use Rattle.cells.specs.Levels.{level}
use Rattle.cells.specs.Raising.{raised_times, triple, raised_to}
use Rattle.cells.specs.Marks.{marks_in}
use Rattle.cells.proofs.Places.{length-list_of, list_of-at, number_same}
use Rattle.cells.proofs.Bytes.{part-bit, length-bytes_of, bytes_of-same}
use Rattle.cells.proofs.Levels.{level-same}
use Rattle.cells.proofs.Parts.{within, part-number, part-place}
use Rattle.codes.specs.Layouts.{one_bit}
use Rattle.codes.proofs.Layouts.{one_bit-stages, one_bit-cells, one_bit-bytes}
use Rattle.demand.specs.Jobs.{part, Whole}

-- PARTS. One of S parts of n bytes has n bytes
pub part_length : (n S k : ℕ) (x : List ℕ) → length x ≡ n * S → k < S → length (part n k x) ≡ n
unfolding part
part_length n S k x e h = length-take-le n (drop (n * k) x) (omega (arith, length-drop (n * k) x, within n k S h))

-- which are bytes where those of the whole are
pub part-octets : (n k : ℕ) (x : List ℕ) → Octets x → Octets (part n k x)
unfolding part
part-octets n k x b = record {
  below = λ q l.
      let m = rw (length-take n (drop (n * k) x), length-drop (n * k) x) at l in
      let h : q < n = omega arith in
      rw (get_or-take n (drop (n * k) x) q 0 h, get_or-drop (n * k) x q 0) (b.below (n * k + q) (omega arith));
}

-- bit t of part k of the data is bit 8·L·k + t of the data
pub part-data : (L k : ℕ) (content : List ℕ) (t : ℕ) → t < 8 * L → bit_of (part L k content) t ≡ bit_of content (8 * L * k + t)
unfolding part
part-data L k content t h = part-bit (L * k) L content t h ∙ ap (bit_of content) (omega arith)

-- mark c of part k of a map is mark 8·n·k + c of the map
pub part-marks : (n k : ℕ) (bytes : List ℕ) (c : ℕ) → c < 8 * n → marks_in (part n k bytes) c ≡ marks_in bytes (8 * n * k + c)
unfolding marks_in
part-marks n k bytes c h = ap (λ (b : ℕ). eqb b 1) (part-data n k bytes c h)

-- place i of part k
part_at : (n k : ℕ) (x : List ℕ) (i : ℕ) → i < n → get_or (part n k x) i 0 ≡ get_or x (n * k + i) 0
unfolding part
part_at n k x i h = rw (get_or-take n (drop (n * k) x) i 0 h, get_or-drop (n * k) x i 0)

-- the same parts, the same list
pub parts_same : (n S : ℕ) (x y : List ℕ) → length x ≡ n * S → length y ≡ n * S → ((k : ℕ) → k < S → part n k x ≡ part n k y) → x ≡ y
parts_same n S x y p q e = ext_get_or 0 x y (p ∙ sym q) each
  where
    each : (i : ℕ) → i < length x → get_or x i 0 ≡ get_or y i 0
    each i h =
        let l : i < n * S = omega arith in
        let m = part-place n S i l in
        ap (λ (j : ℕ). get_or x j 0) (sym (div-add-mod i n)) ∙ sym (part_at n (i / n) x (i % n) m)
        ∙ ap (λ (z : List ℕ). get_or z (i % n) 0) (e (i / n) (part-number n S i l))
        ∙ part_at n (i / n) y (i % n) m ∙ ap (λ (j : ℕ). get_or y j 0) (div-add-mod i n)

-- a part of the bytes of some bits
part-bytes_of : (N n m : ℕ) (f : ℕ → ℕ) → n + m ≤ N → take m (drop n (bytes_of N f)) ≡ bytes_of m (λ k. f (8 * n + k))
unfolding bytes_of
part-bytes_of N n m f h =
    ext_get_or 0 _ _ (len ∙ sym (length-list_of m _)) (λ i k.
    let l : i < m = omega (arith, len) in
    get_or-take m (drop n (bytes_of N f)) i 0 l ∙ get_or-drop n (bytes_of N f) i 0 ∙ list_of-at N _ (n + i) 0 (omega arith)
    ∙ number_same 8 _ _ (λ j q. ap f (omega arith)) ∙ sym (list_of-at m _ i 0 l))
  where
    len : length (take m (drop n (bytes_of N f))) ≡ m
    len = length-take-le m (drop n (bytes_of N f)) (omega (arith, length-drop n (bytes_of N f), length-bytes_of N f))

-- bit i of a page raised
bit-raised : (ℕ → ℕ) → List ℕ → (ℕ → ℕ) → ℕ → ℕ
bit-raised start page to i = get_or (raised_times (start (i / 3)) (to (i / 3) - level page (i / 3)) (triple page (i / 3))) (i % 3) 0

-- STRIPS of n cells in b bytes
module _ (n b : ℕ) (fill : 3 * n ≡ 8 * b) (k : ℕ) where
  -- the bits before strip k, by cells and by bytes
  bits-before : 3 * (n * k) ≡ 8 * (b * k)
  bits-before = sym (mul_assoc 3 n k) ∙ ap (λ (x : ℕ). x * k) fill ∙ mul_assoc 8 b k

  module _ (page : List ℕ) where
    -- bit i of cell c of strip k
    part-bits : (c : ℕ) → c < n → (i : ℕ) → i < 3 → bit_of (part b k page) (3 * c + i) ≡ bit_of page (3 * (n * k + c) + i)
    unfolding part
    part-bits c h i l = part-bit (b * k) b page (3 * c + i) (omega arith) ∙ ap (bit_of page) (omega (arith, bits-before))

    -- cell c of strip k is cell n·k + c of the page
    pub part-level : (c : ℕ) → c < n → level (part b k page) c ≡ level page (n * k + c)
    part-level c h = level-same _ _ _ _ (part-bits c h)

    -- with the same three bits
    part-triple : (c : ℕ) → c < n → triple (part b k page) c ≡ triple page (n * k + c)
    unfolding triple
    part-triple c h =
        let x : 3 * c ≡ 3 * c + 0 = omega arith in
        let y : 3 * (n * k + c) + 0 ≡ 3 * (n * k + c) = omega arith in
        ap₂ (λ (u : ℕ) (l : List ℕ). u ∷ l) (ap (bit_of (part b k page)) x ∙ part-bits c h 0 (omega arith) ∙ ap (bit_of page) y)
        (ap₂ (λ (u v : ℕ). u ∷ v ∷ []) (part-bits c h 1 (omega arith)) (part-bits c h 2 (omega arith)))

    module _ (start to : ℕ → ℕ) where
      -- bit i of strip k raised
      part-bit-raised : (i : ℕ) → i < 8 * b
          → bit-raised start page to (8 * (b * k) + i) ≡ bit-raised (λ c. start (n * k + c)) (part b k page) (λ c. to (n * k + c)) i
      unfolding bit-raised
      part-bit-raised i l =
          let c : i / 3 < n = omega arith in
          let x : (8 * (b * k) + i) / 3 ≡ n * k + i / 3 = omega (arith, bits-before) in
          let y : (8 * (b * k) + i) % 3 ≡ i % 3 = omega (arith, bits-before) in
          rw (x, y, part-level (i / 3) c, part-triple (i / 3) c)

      -- strip k of a page raised is strip k raised, with its own starts and levels
      pub part-raised : (S : ℕ) → length page ≡ b * S → k < S
          → part b k (raised_to start page to) ≡ raised_to (λ c. start (n * k + c)) (part b k page) (λ c. to (n * k + c))
      unfolding part raised_to bit-raised
      part-raised S e h =
          part-bytes_of (length page) (b * k) b (bit-raised start page to) (omega (arith, within b k S h))
          ∙ bytes_of-same b _ (bit-raised (λ c. start (n * k + c)) (part b k page) (λ c. to (n * k + c))) part-bit-raised
          ∙ ap (λ (m : ℕ). bytes_of m (bit-raised (λ c. start (n * k + c)) (part b k page) (λ c. to (n * k + c))))
          (sym (part_length b S k page e h))

-- ONE BIT A CELL. 16·L cells fill 6·L bytes, and 8·L stages take the data
pub one_bit-whole : (L : ℕ) → Whole one_bit L
one_bit-whole L = record { cells_fill = omega (arith, one_bit-cells L, one_bit-bytes L); stages_fill = omega (arith, one_bit-stages L) }
