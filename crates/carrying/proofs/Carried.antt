-- CARRYING THE DIGITS OUT: the bits of a block whose cells show what is wanted, and the strip after one block more.
--   carried_below               the levels to reach where the cells before cell m are carried out
--   carried_none                before the first cell the strip is as it was
--   left-bits                   before block q is carried out, its bits are as they were
--   with-stored                 a strip with 48 bits in a block has six bytes stored there
--   carried-block               one block more is carried out where its cells show what is wanted of them
--   carried-all                 past the last cell all are carried out
--   digits-window               the window of eight digits is their byte
--   block-first, block-second   what the digits of a block want of its cells
use mathlib.Core.Path.{◌≡◌, sym, ◌∙◌, ap, ap₂}
use mathlib.Core.Logic.{⊎_elim}
use mathlib.Core.Bool.{Bool, cond}
use mathlib.Core.List.{List}
use Prim.Native.Nat.{ℕ, suc, ◌+◌, ◌*◌, ◌-◌, ◌/◌, ◌%◌, ◌^◌, ◌<◌, ◌≤◌}
use native.Mathlib.Omega.{arith, ne_cases}
use native.Mathlib.Nat.{mod-lt, zero-lt-suc}
use lib.Dec.{ltb}
use lib.Bits.{bit_xor}
use lib.ListN.{length, get_or}
use lib.Pow.{shr-shr}
use lib.Seq.{ext_get_or}
use borrow.Author.Tests.{lt-ltb, le-ltb}
use Rattle.cells.specs.Places.{from_bits}
use Rattle.cells.specs.Bytes.{bit_of, bytes_of}
use Rattle.cells.specs.Levels.{level}
use Rattle.cells.specs.Raising.{start_of, raised_times, triple, raised_to}
use Rattle.cells.proofs.Places.{same?, list_of-at, number_same}
use Rattle.cells.proofs.Bytes.{number-bits}
use Rattle.cells.proofs.Raising.{raised_to-length, raised_to-same, raised_to-none}
use Rattle.codes.specs.Generators.{Generators, g2}
use Rattle.codes.specs.Taps.{taps_of, parity_of, window_of}
use Rattle.codes.specs.Blocks.{label_at}
use Rattle.codes.proofs.Taps.{low_bit, window-less}
use Rattle.codes.proofs.Divisions.{xor-bit}
use Rattle.codes.proofs.Windows.{window-byte, window-parity, label-bound}
use Rattle.rows.specs.Rows.{ones_of, bits_at, cell_in}
use Rattle.carrying.specs.Carrying.{digit_in, wanted_first, wanted_second, wanted_of, carried_to}
use Rattle.carrying.specs.Carrying.{shown_cell, wanted_bits, BlockShown, byte_in, with_bits}
use Rattle.rows.proofs.Quotes.{bits-bit}
use Rattle.carrying.proofs.Shown.{three_bits, shown-bit, low-cell, high-cell}
use Rattle.rows.proofs.Cells.{cell-bit}
use Rattle.prices.proofs.Stores.{stored, length-stored, stored_at, stored_other}

-- A CELL by a number whose three bits are its own
module _ (strip : List ℕ) (c x : ℕ) (bits : (r : ℕ) → r < 3 → x / 2 ^ r % 2 ≡ bit_of strip (3 * c + r)) where
  -- the same three bits
  cell-three : three_bits x ≡ triple strip c
  unfolding triple
  cell-three =
      let z : x / 1 ≡ x = omega arith in
      let y : 3 * c + 0 ≡ 3 * c = omega arith in
      let a : x % 2 ≡ bit_of strip (3 * c) = ap (λ (k : ℕ). k % 2) (sym z) ∙ bits 0 (omega arith) ∙ ap (bit_of strip) y in
      let b : x / 2 % 2 ≡ bit_of strip (3 * c + 1) = bits 1 (omega arith) in
      let d : x / 4 % 2 ≡ bit_of strip (3 * c + 2) = bits 2 (omega arith) in
      cc

  -- as many ones as the cell's level
  cell-ones : ones_of x ≡ level strip c
  unfolding ones_of level triple
  cell-ones = ap (λ (l : List ℕ). get_or l 0 0 + get_or l 1 0 + get_or l 2 0) cell-three

  -- and where it is to show v, its bits are those of the cell raised to the level `to`
  cell-shown : (s v to r : ℕ) → r < 3 → to ≡ level strip c + (level strip c + v) % 2
      → shown_cell s x v / 2 ^ r % 2 ≡ get_or (raised_times s (to - level strip c) (triple strip c)) r 0
  cell-shown s v to r h e =
      let d : (level strip c + v) % 2 ≡ to - level strip c = omega arith in
      shown-bit s x v r h
      ∙ ap₂ (λ (n : ℕ) (l : List ℕ). get_or (raised_times s n l) r 0) (ap (λ (k : ℕ). (k + v) % 2) cell-ones ∙ d) cell-three

-- A STRIP RAISED. Its bit k
abbrev raised_bit : List ℕ → (ℕ → ℕ) → ℕ → ℕ
raised_bit strip to k = get_or (raised_times (start_of (k / 3)) (to (k / 3) - level strip (k / 3)) (triple strip (k / 3))) (k % 3) 0

module _ (strip : List ℕ) where
  -- bit r of cell c
  raised_at : (to : ℕ → ℕ) (c r : ℕ) → r < 3
      → raised_bit strip to (3 * c + r) ≡ get_or (raised_times (start_of c) (to c - level strip c) (triple strip c)) r 0
  raised_at to c r h =
      let x : (3 * c + r) / 3 ≡ c = omega arith in
      let y : (3 * c + r) % 3 ≡ r = omega arith in
      ap₂ (λ (d j : ℕ). get_or (raised_times (start_of d) (to d - level strip d) (triple strip d)) j 0) x y

  -- its byte i
  raised_byte : (to : ℕ → ℕ) (i : ℕ) → i < length strip
      → get_or (raised_to start_of strip to) i 0 ≡ from_bits 8 (λ e. raised_bit strip to (8 * i + e))
  unfolding raised_to bytes_of
  raised_byte to i h = list_of-at (length strip) _ i 0 h

  -- which depends on the levels of its own cells alone
  raised-byte-same : (to to' : ℕ → ℕ) (i : ℕ) → i < length strip → ((c : ℕ) → 8 * i ≤ 3 * c + 2 → 3 * c ≤ 8 * i + 7 → to c ≡ to' c)
      → get_or (raised_to start_of strip to) i 0 ≡ get_or (raised_to start_of strip to') i 0
  raised-byte-same to to' i h e =
      raised_byte to i h
      ∙ number_same 8 _ _ (λ j l.
      let k = 8 * i + j in
      ap (λ (n : ℕ). get_or (raised_times (start_of (k / 3)) (n - level strip (k / 3)) (triple strip (k / 3))) (k % 3) 0)
      (e (k / 3) (omega arith) (omega arith)))
      ∙ sym (raised_byte to' i h)

-- A STRIP WITH 48 BITS in block q has six bytes stored there
pub with-stored : (strip : List ℕ) (q bits : ℕ) → with_bits strip q bits ≡ stored strip (6 * q) (byte_in bits) 6
unfolding with_bits stored
with-stored strip q bits = let e : 6 * q + 0 ≡ 6 * q = omega arith in rw e

-- CARRYING OUT the digits u
module _ (G : Generators) (strip content : List ℕ) (u : ℕ → ℕ) where
  -- the level of each cell where those before cell m are carried out
  unfoldable pub carried_below : ℕ → ℕ → ℕ
  carried_below m c = cond (ltb c m) (carried_to G strip content u c) (level strip c)

  -- a cell before cell m
  below-done : (m c : ℕ) → c < m → carried_below m c ≡ carried_to G strip content u c
  unfolding carried_below
  below-done m c h = ap (λ (b : Bool). cond b (carried_to G strip content u c) (level strip c)) (lt-ltb _ _ h)

  -- a cell from cell m on
  below_left : (m c : ℕ) → m ≤ c → carried_below m c ≡ level strip c
  unfolding carried_below
  below_left m c h = ap (λ (b : Bool). cond b (carried_to G strip content u c) (level strip c)) (le-ltb _ _ h)

  -- before the first cell the strip is as it was
  pub carried_none : ((i : ℕ) → get_or strip i 0 < 256) → strip ≡ raised_to start_of strip (carried_below 0)
  carried_none bytes =
      sym (raised_to-same start_of strip (carried_below 0) (level strip) (λ c h. below_left 0 c (omega arith))
      ∙ raised_to-none start_of strip (record { below = λ i k. bytes i }))

  -- past the last cell all are carried out
  pub carried-all : (m : ℕ) → 8 * length strip ≤ 3 * m
      → raised_to start_of strip (carried_below m) ≡ raised_to start_of strip (carried_to G strip content u)
  carried-all m h = raised_to-same start_of strip (carried_below m) _ (λ c l. below-done m c (omega arith))

  -- the bit that is wanted of the first cell of stage t
  wanted-even : (t : ℕ) → wanted_of G content u (2 * t) ≡ wanted_first G u t
  unfolding wanted_of
  wanted-even t =
      let x : (2 * t) % 2 ≡ 0 = omega arith in
      let y : (2 * t) / 2 ≡ t = omega arith in
      rw (x, y)

  -- and of the second
  wanted-odd : (t : ℕ) → wanted_of G content u (2 * t + 1) ≡ wanted_second G content u t
  unfolding wanted_of
  wanted-odd t =
      let x : (2 * t + 1) % 2 ≡ 1 = omega arith in
      let y : (2 * t + 1) / 2 ≡ t = omega arith in
      rw (x, y)

  -- a cell before cell m of which the bit v is wanted
  below-wanted : (m c v : ℕ) → c < m → v ≡ wanted_of G content u c → carried_below m c ≡ level strip c + (level strip c + v) % 2
  unfolding carried_to
  below-wanted m c v h e = below-done m c h ∙ ap (λ (w : ℕ). level strip c + (level strip c + w) % 2) (sym e)

  -- the bytes of block q are those of the strip where the cells before it are carried out
  left-byte : (q j : ℕ) → 6 * q + j < length strip → ((i : ℕ) → get_or strip i 0 < 256)
      → get_or (raised_to start_of strip (carried_below (16 * q))) (6 * q + j) 0 ≡ get_or strip (6 * q + j) 0
  left-byte q j h bytes =
      raised-byte-same strip (carried_below (16 * q)) (level strip) (6 * q + j) h (λ c k l. below_left (16 * q) c (omega arith))
      ∙ ap (λ (l : List ℕ). get_or l (6 * q + j) 0) (raised_to-none start_of strip (record { below = λ i k. bytes i }))

  -- and so are its 48 bits
  pub left-bits : (q : ℕ) → 6 * q + 6 ≤ length strip → ((i : ℕ) → get_or strip i 0 < 256)
      → bits_at (raised_to start_of strip (carried_below (16 * q))) q ≡ bits_at strip q
  unfolding bits_at
  left-bits q h bytes =
      let z : 6 * q ≡ 6 * q + 0 = omega arith in
      let first : get_or (raised_to start_of strip (carried_below (16 * q))) (6 * q) 0 ≡ get_or strip (6 * q) 0 =
      rw z (left-byte q 0 (omega arith) bytes) in
      rw (
        first,
        left-byte q 1 (omega arith) bytes,
        left-byte q 2 (omega arith) bytes,
        left-byte q 3 (omega arith) bytes,
        left-byte q 4 (omega arith) bytes,
        left-byte q 5 (omega arith) bytes,
      )

  -- a cell of a byte i that is not in block q has the same level to reach after the block
  below_other : (q i c : ℕ) → (i / 6 ≡ q → ⊥) → 8 * i ≤ 3 * c + 2 → 3 * c ≤ 8 * i + 7
      → carried_below (16 * q) c ≡ carried_below (16 * (q + 1)) c
  below_other q i c n h k =
      ne_cases (i / 6) q (carried_below (16 * q) c ≡ carried_below (16 * (q + 1)) c) n
      (λ l. below-done (16 * q) c (omega arith) ∙ sym (below-done (16 * (q + 1)) c (omega arith)))
      (λ l. below_left (16 * q) c (omega arith) ∙ sym (below_left (16 * (q + 1)) c (omega arith)))

  -- bit r of a cell before cell m, of which the bit v is wanted, by a number whose three bits are its own
  cell-carried : (m c x v r : ℕ) → c < m → r < 3 → v ≡ wanted_of G content u c
      → ((e : ℕ) → e < 3 → x / 2 ^ e % 2 ≡ bit_of strip (3 * c + e))
      → shown_cell (start_of c) x v / 2 ^ r % 2 ≡ raised_bit strip (carried_below m) (3 * c + r)
  cell-carried m c x v r h l w bits =
      cell-shown strip c x bits (start_of c) v (carried_below m c) r l (below-wanted m c v h w)
      ∙ sym (raised_at strip (carried_below m) c r l)

  -- BLOCK q, by a word whose cells show the bits that are wanted
  module _ (q first second word : ℕ) (shown : BlockShown q (bits_at strip q) (wanted_bits first second 8) word)
      (bytes : (i : ℕ) → get_or strip i 0 < 256)
      (wants-first : (i : ℕ) → i < 8 → first / 2 ^ (7 - i) % 2 ≡ wanted_first G u (8 * q + i))
      (wants-second : (i : ℕ) → i < 8 → second / 2 ^ (7 - i) % 2 ≡ wanted_second G content u (8 * q + i)) where
    -- the bit that is wanted of its cell j
    cell-wanted : (j : ℕ) → j < 16 → cell_in (wanted_bits first second 8) j ≡ wanted_of G content u (16 * q + j)
    cell-wanted j h =
        let i = j / 2 in
        let l : i < 8 = omega arith in
        ⊎_elim
        (λ z.
        let d : j ≡ 2 * i = omega arith in
        let c : 2 * (8 * q + i) ≡ 16 * q + j = omega arith in
        ap (cell_in (wanted_bits first second 8)) d ∙ low-cell first second i l ∙ wants-first i l ∙ sym (wanted-even (8 * q + i))
        ∙ ap (wanted_of G content u) c)
        (λ z.
        let d : j ≡ 2 * i + 1 = omega arith in
        let c : 2 * (8 * q + i) + 1 ≡ 16 * q + j = omega arith in
        ap (cell_in (wanted_bits first second 8)) d ∙ high-cell first second i l ∙ wants-second i l ∙ sym (wanted-odd (8 * q + i))
        ∙ ap (wanted_of G content u) c)
        (same? (j % 2) 0)

    -- bit m of the block
    block-bit : (m : ℕ) → m < 48 → word / 2 ^ m % 2 ≡ raised_bit strip (carried_below (16 * (q + 1))) (48 * q + m)
    block-bit m h =
        let j = m / 3 in
        let r = m % 3 in
        let l : j < 16 = omega arith in
        let k : r < 3 = omega arith in
        let e : 3 * j + r ≡ m = omega arith in
        let d : 3 * (16 * q + j) + r ≡ 48 * q + m = omega arith in
        ap (λ (n : ℕ). word / 2 ^ n % 2) (sym e)
        ∙ sym (cell-bit word j r k)
        ∙ ap (λ (x : ℕ). x / 2 ^ r % 2) (shown.cells j l)
        ∙ cell-carried (16 * (q + 1)) (16 * q + j) (cell_in (bits_at strip q) j) (cell_in (wanted_bits first second 8) j) r (omega arith) k
        (cell-wanted j l)
        (λ b n. cell-bit (bits_at strip q) j b n ∙ bits-bit strip bytes q (3 * j + b) (omega arith) ∙ ap (bit_of strip) (omega arith))
        ∙ ap (raised_bit strip (carried_below (16 * (q + 1)))) d

    -- byte j of the block
    block-byte : (j : ℕ) → j < 6 → 6 * q + j < length strip → byte_in word j
        ≡ get_or (raised_to start_of strip (carried_below (16 * (q + 1)))) (6 * q + j) 0
    unfolding byte_in
    block-byte j h l =
        sym (number-bits 8 (word / 2 ^ (8 * j) % 256) (mod-lt _ (zero-lt-suc 255)))
        ∙ number_same 8 _ _ (λ e k.
        let d : 48 * q + (8 * j + e) ≡ 8 * (6 * q + j) + e = omega arith in
        low_bit 8 e (word / 2 ^ (8 * j)) k ∙ ap (λ (y : ℕ). y % 2) (shr-shr word (8 * j) e) ∙ block-bit (8 * j + e) (omega arith)
        ∙ ap (raised_bit strip (carried_below (16 * (q + 1)))) d)
        ∙ sym (raised_byte strip (carried_below (16 * (q + 1))) (6 * q + j) l)

    -- one block more is carried out: the loop's turn
    pub carried-block : (n : ℕ) → length strip ≡ 6 * n → q < n
        → with_bits (raised_to start_of strip (carried_below (16 * q))) q word ≡ raised_to start_of strip (carried_below (16 * (q + 1)))
    carried-block n size inside =
        let now = raised_to start_of strip (carried_below (16 * q)) in
        let next = raised_to start_of strip (carried_below (16 * (q + 1))) in
        let now-length : length now ≡ length strip = raised_to-length start_of strip (carried_below (16 * q)) in
        let next-length : length next ≡ length strip = raised_to-length start_of strip (carried_below (16 * (q + 1))) in
        let same_length : length (stored now (6 * q) (byte_in word) 6) ≡ length next =
        length-stored now (6 * q) (byte_in word) 6 ∙ now-length ∙ sym next-length in
        with-stored now q word
        ∙ ext_get_or 0 _ next same_length (λ i h.
        ⊎_elim
        (λ z.
        let d : i ≡ 6 * q + i % 6 = omega arith in
        ap (λ (k : ℕ). get_or (stored now (6 * q) (byte_in word) 6) k 0) d
        ∙ stored_at now (6 * q) (byte_in word) 6 (i % 6) (omega arith) (omega arith)
        ∙ block-byte (i % 6) (omega arith) (omega arith)
        ∙ ap (λ (k : ℕ). get_or next k 0) (sym d))
        (λ z.
        stored_other now (6 * q) (byte_in word) 6 i (λ j k f. z (omega arith))
        ∙ raised-byte-same strip (carried_below (16 * q)) (carried_below (16 * (q + 1))) i (omega arith) (λ c a b. below_other q i c z a b))
        (same? (i / 6) q))

-- WHAT THE DIGITS WANT, by eight stages at a time. A digit is 0 or 1
digit-less : (digits : List ℕ) (t : ℕ) → digit_in digits t < 2
unfolding digit_in
digit-less digits t = mod-lt _ (zero-lt-suc 1)

-- the window of eight digits is their byte
pub digits-window : (digits : List ℕ) (q : ℕ) → get_or digits q 0 < 256 → window_of 8 (digit_in digits) (8 * (q + 1)) ≡ get_or digits q 0
unfolding digit_in
digits-window digits q h =
    let w : ℕ = window_of 8 (digit_in digits) (8 * (q + 1)) in
    sym (number-bits 8 w (window-less 8 (digit_in digits) (8 * (q + 1))))
    ∙ number_same 8 _ _ (λ p l.
    let e : (8 * q + (7 - p)) / 8 ≡ q = omega arith in
    let f : 7 - (8 * q + (7 - p)) % 8 ≡ p = omega arith in
    window-byte (digit_in digits) (digit-less digits) q p l ∙ ap₂ (λ (k j : ℕ). get_or digits k 0 / 2 ^ j % 2) e f)
    ∙ number-bits 8 (get_or digits q 0) h

module _ (G : Generators) (reach : G.memory ≤ 6) (content digits : List ℕ) (q : ℕ) (byte : get_or digits q 0 < 256) {before w : ℕ}
    (e : before ≡ window_of 8 (digit_in digits) (8 * q)) (f : w ≡ before * 256 + get_or digits q 0) where
  -- the bits of a generator g by the window of sixteen digits
  bits-made : (g r : ℕ) → ((p : ℕ) → r / 2 ^ p % 2 ≡ parity_of (taps_of G.memory g) (w / 2 ^ p)) → (i : ℕ) → i < 8
      → r / 2 ^ (7 - i) % 2 ≡ parity_of (taps_of G.memory g) (window_of (suc G.memory) (digit_in digits) (suc (8 * q + i)))
  bits-made g r made i h =
      let x : 8 * q + 7 - (7 - i) ≡ 8 * q + i = omega arith in
      let y : w ≡ window_of 8 (digit_in digits) (8 * q) * 256 + window_of 8 (digit_in digits) (8 * (q + 1)) =
      f ∙ ap₂ (λ (a b : ℕ). a * 256 + b) e (sym (digits-window digits q byte)) in
      made (7 - i) ∙ ap (λ (z : ℕ). parity_of (taps_of G.memory g) (z / 2 ^ (7 - i))) y
      ∙ window-parity (digit_in digits) (digit-less digits) G.memory g q (7 - i) (omega arith) (omega arith)
      ∙ ap (λ (t : ℕ). parity_of (taps_of G.memory g) (window_of (suc G.memory) (digit_in digits) (suc t))) x

  -- what is wanted of the first cells
  pub block-first : (first : ℕ) → ((p : ℕ) → first / 2 ^ p % 2 ≡ parity_of (taps_of G.memory G.g1) (w / 2 ^ p)) → (i : ℕ) → i < 8
      → first / 2 ^ (7 - i) % 2 ≡ wanted_first G (digit_in digits) (8 * q + i)
  unfolding wanted_first
  block-first first made i h = bits-made G.g1 first made i h

  -- and of the second: the labels are added without carries
  pub block-second : (second : ℕ) {labels : ℕ} → ((p : ℕ) → second / 2 ^ p % 2 ≡ parity_of (taps_of G.memory (g2 G)) (w / 2 ^ p))
      → labels ≡ window_of 8 (label_at G content) (8 * (q + 1)) → (i : ℕ) → i < 8
      → bit_xor second labels / 2 ^ (7 - i) % 2 ≡ wanted_second G content (digit_in digits) (8 * q + i)
  unfolding wanted_second
  block-second second {labels} made l i h =
      let x : 8 * q + (7 - (7 - i)) ≡ 8 * q + i = omega arith in
      xor-bit second labels (7 - i)
      ∙ ap₂ (λ (a b : ℕ). (a + b) % 2) (bits-made (g2 G) second made i h)
      (ap (λ (z : ℕ). z / 2 ^ (7 - i) % 2) l ∙ window-byte (label_at G content) (label-bound G content) q (7 - i) (omega arith)
      ∙ ap (label_at G content) x)
