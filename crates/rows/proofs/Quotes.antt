-- THE ROWS: which rows a block picks, and what they tell of its stages.
--   row-less, row-added         a row is a byte, as the program adds it up
--   picks-are                   eight rows packed are picked one by one, counted round
--   bits-bit, bits-less         the 48 bits of a block are bits of the strip
--   cell-level, cell-mark       the level and the mark of a cell of a block
--   first_kind, second-kind     the two cells of a stage in its row
--   price-decoded               the price of a bit tells the price of the plain search
--   row-quoted                  THE MAIN LAW: the row that a block picks tells the prices of its stage, and the bit that wins a tie
use mathlib.Core.Path.{◌≡◌, refl, sym, ◌∙◌, ap, ap₂}
use mathlib.Core.Bool.{Bool, true, false, cond, beq}
use mathlib.Core.List.{List, [], ◌∷◌, ◌++◌}
use mathlib.Core.Option.{none, some}
use Prim.Native.Nat.{ℕ, zero, suc, ◌+◌, ◌-◌, ◌*◌, ◌/◌, ◌%◌, ◌^◌, ◌<◌, ◌≤◌}
use native.Mathlib.Omega.{arith}
use native.Mathlib.Nat.{mod-lt, zero-lt-suc}
use lib.Dec.{eqb, ltb}
use lib.ListN.{length, get_or, replicate, get_or-replicate, get_or-append}
use lib.Seq.{get_or-append-add}
use borrow.Author.Tests.{ltb-true, ltb-false, le-ltb}
use Rattle.cells.specs.Places.{from_bits}
use Rattle.cells.specs.Bytes.{bit_of}
use Rattle.cells.specs.Levels.{level}
use Rattle.cells.specs.Marks.{marks_in}
use Rattle.cells.specs.Climbs.{weight_of, Weights}
use Rattle.cells.proofs.Places.{number_same, number-less}
use Rattle.cells.proofs.Bytes.{bit-bound, number_bit, byte-bits}
use Rattle.cells.proofs.Levels.{level-bound}
use Rattle.codes.specs.Generators.{Generators}
use Rattle.codes.specs.Sequences.{◌+₂◌, odd}
use Rattle.codes.specs.Numbers.{one-if}
use Rattle.codes.proofs.Numbers.{one-if-le, one-if-odd, sum-bits}
use Rattle.search.specs.Strip.{Cell, steps_of}
use Rattle.search.specs.Search.{Stage}
use Rattle.search.specs.Levels.{cell_at}
use Rattle.search.specs.Parity.{keep-or-raise}
use Rattle.search.specs.Plan.{solution_cost}
use Rattle.search.specs.OneBit.{bit_price, one_bit_prices}
use Rattle.search.proofs.Windows.{mod-odd}
use Rattle.stages.specs.Stage.{closed}
use Rattle.stage_blocks.specs.Blocks.{pick_at}
use Rattle.stages.specs.Costs.{Decodes, open_at, shut}
use Rattle.stages.specs.Trails.{Quoted}
use Rattle.prices.specs.Prices.{step_list, price_for, row_price, Priced}
use Rattle.rows.specs.Rows.{ones_of, cell_in, mark_in, second_in, cell_kind, stage_row, bits_at}
use Rattle.rows.specs.Rows.{marks_at, packed_of}
use Rattle.rows.specs.Stages.{label_for, cell_for, stage_for, quote_for}
use Rattle.stages.proofs.Sums.{decodes-add, decodes-cut}
use Rattle.prices.proofs.Prices.{row-price}
use Rattle.rows.proofs.Digits.{packed-bits}
use Rattle.rows.proofs.Cells.{cell-bit}
use Rattle.rows.proofs.Words.{pair-packed, kind-less}

-- THE PICKS. A row is a byte
pub row-less : (bits marks labels i : ℕ) → stage_row bits marks labels i < 2 ^ 8
unfolding stage_row
row-less bits marks labels i =
    let b : labels / 2 ^ (7 - i) % 2 ≤ 1 = omega arith in
    omega (arith, kind-less bits marks (2 * i), kind-less bits marks (2 * i + 1))

-- as the program adds it up
pub row-added : (bits marks labels kinds i : ℕ) → kinds ≡ packed_of 3 (cell_kind bits marks) 16 → i < 8
    → kinds / 2 ^ (6 * i) % 64 + labels / 2 ^ (7 - i) % 2 * 32 ≡ stage_row bits marks labels i
unfolding stage_row
row-added bits marks labels kinds i e h =
    ap (λ (x : ℕ). x + labels / 2 ^ (7 - i) % 2 * 32)
    (ap (λ (k : ℕ). k / 2 ^ (6 * i) % 64) e ∙ pair-packed (cell_kind bits marks) (kind-less bits marks) i h)

-- eight rows packed are picked one by one, counted round
pub picks-are : (bits marks labels picks : ℕ) → picks ≡ packed_of 8 (stage_row bits marks labels) 8 → (i : ℕ) → i < 8
    → pick_at picks i ≡ stage_row bits marks labels i % 64
unfolding pick_at
picks-are bits marks labels picks p i h =
    let z : 8 * i + 0 ≡ 8 * i = omega arith in
    let y : stage_row bits marks labels i / 2 ^ 0 ≡ stage_row bits marks labels i = omega arith in
    let e = packed-bits 8 (stage_row bits marks labels) (row-less bits marks labels) 8 i 0 6 h (omega arith) in
    rw p (rw (z, y) at e)

-- THE BITS. 48 bits are six bytes
six-bytes : (f : ℕ → ℕ) → from_bits 48 f
    ≡ from_bits 8 (λ i. f (8 * 0 + i)) + from_bits 8 (λ i. f (8 * 1 + i)) * 256 + from_bits 8 (λ i. f (8 * 2 + i)) * 65536
    + from_bits 8 (λ i. f (8 * 3 + i)) * 16777216 + from_bits 8 (λ i. f (8 * 4 + i)) * 4294967296
    + from_bits 8 (λ i. f (8 * 5 + i)) * 1099511627776
unfolding from_bits
six-bytes f = omega arith

module _ (strip : List ℕ) (bytes : (i : ℕ) → get_or strip i 0 < 256) (q : ℕ) where
  -- byte k of a block
  block-byte : (k : ℕ) → from_bits 8 (λ i. bit_of strip (48 * q + (8 * k + i))) ≡ get_or strip (6 * q + k) 0
  block-byte k =
      number_same 8 _ _ (λ i l. ap (bit_of strip) (let e : 48 * q + (8 * k + i) ≡ 8 * (6 * q + k) + i = omega arith in e))
      ∙ byte-bits strip (6 * q + k) (bytes (6 * q + k))

  -- the bits of a block as one number
  bits-number : bits_at strip q ≡ from_bits 48 (λ j. bit_of strip (48 * q + j))
  unfolding bits_at
  bits-number =
      let e : 6 * q + 0 ≡ 6 * q = omega arith in
      omega (
        arith,
        six-bytes (λ j. bit_of strip (48 * q + j)),
        block-byte 0 ∙ ap (λ (k : ℕ). get_or strip k 0) e,
        block-byte 1,
        block-byte 2,
        block-byte 3,
        block-byte 4,
        block-byte 5,
      )

  -- the bits of a block are those of the strip
  pub bits-bit : (j : ℕ) → j < 48 → bits_at strip q / 2 ^ j % 2 ≡ bit_of strip (48 * q + j)
  bits-bit j h = rw bits-number (number_bit 48 (λ j. bit_of strip (48 * q + j)) (λ i l. bit-bound strip (48 * q + i)) j h)

  -- and there are 48 of them
  pub bits-less : bits_at strip q < 2 ^ 48
  bits-less = rw bits-number (number-less 48 _ (λ i. bit-bound strip (48 * q + i)))

  -- the ones of a cell of the block are its level
  pub cell-level : (j : ℕ) → j < 16 → ones_of (cell_in (bits_at strip q) j) ≡ level strip (16 * q + j)
  unfolding ones_of level
  cell-level j h =
      let x = cell_in (bits_at strip q) j in
      let c = 16 * q + j in
      let at : (r k : ℕ) → r < 3 → 48 * q + (3 * j + r) ≡ k → x / 2 ^ r % 2 ≡ bit_of strip k =
      λ r k l e. cell-bit (bits_at strip q) j r l ∙ bits-bit (3 * j + r) (omega arith) ∙ ap (bit_of strip) e in
      let z : x % 2 ≡ x / 2 ^ 0 % 2 = omega arith in
      ap₂ ◌+◌ (ap₂ ◌+◌ (z ∙ at 0 (3 * c) (omega arith) (omega arith)) (at 1 (3 * c + 1) (omega arith) (omega arith)))
      (at 2 (3 * c + 2) (omega arith) (omega arith))

-- THE MARKS. A bit of the map says whether the cell is marked
mark-bit : (map : List ℕ) (c : ℕ) → bit_of map c ≡ one-if (marks_in map c)
unfolding marks_in one-if
mark-bit map c = go (bit_of map c) (bit-bound map c)
  where
    go : (b : ℕ) → b < 2 → b ≡ one-if (eqb b 1)
    go zero h = refl
    go (suc zero) h = refl
    go (suc (suc b)) h = absurd (let z : ⊥ = omega arith in z)

-- the marks of a block
module _ (map : List ℕ) (bytes : (i : ℕ) → get_or map i 0 < 256) (q : ℕ) where
  -- 16 marks as one number
  marks-number : marks_at map q ≡ from_bits 16 (λ j. bit_of map (16 * q + j))
  unfolding marks_at from_bits
  marks-number =
      let z : 2 * q + 0 ≡ 2 * q = omega arith in
      omega (arith, two_bytes (λ j. bit_of map (16 * q + j)), byte 0 ∙ ap (λ (k : ℕ). get_or map k 0) z, byte 1)
    where
      two_bytes : (f : ℕ → ℕ) → from_bits 16 f ≡ from_bits 8 (λ i. f (8 * 0 + i)) + from_bits 8 (λ i. f (8 * 1 + i)) * 256
      two_bytes f = omega arith

      byte : (k : ℕ) → from_bits 8 (λ i. bit_of map (16 * q + (8 * k + i))) ≡ get_or map (2 * q + k) 0
      byte k =
          number_same 8 _ _ (λ i l. ap (bit_of map) (let e : 16 * q + (8 * k + i) ≡ 8 * (2 * q + k) + i = omega arith in e))
          ∙ byte-bits map (2 * q + k) (bytes (2 * q + k))

  -- a mark of the block
  marks-bit : (j : ℕ) → j < 16 → marks_at map q / 2 ^ j % 2 ≡ bit_of map (16 * q + j)
  marks-bit j h = rw marks-number (number_bit 16 (λ j. bit_of map (16 * q + j)) (λ i l. bit-bound map (16 * q + i)) j h)

  -- by the cell
  pub cell-mark : (j : ℕ) → j < 16 → mark_in (marks_at map q) j ≡ one-if (marks_in map (16 * q + j))
  cell-mark j h = marks-bit j h ∙ mark-bit map (16 * q + j)

-- A STAGE'S CELLS in its row
module _ (strip map : List ℕ) (strip-bytes : (k : ℕ) → get_or strip k 0 < 256) (map-bytes : (k : ℕ) → get_or map k 0 < 256) (q i : ℕ)
    (h : i < 8)
  where
    -- the kind of the first
    pub first_kind : cell_kind (bits_at strip q) (marks_at map q) (2 * i)
        ≡ level strip (2 * (8 * q + i)) + 4 * one-if (marks_in map (2 * (8 * q + i)))
    unfolding cell_kind
    first_kind =
        let e : 16 * q + 2 * i ≡ 2 * (8 * q + i) = omega arith in
        let z : 2 * i % 2 ≡ 0 = omega arith in
        rw (z, cell-level strip strip-bytes q (2 * i) (omega arith), cell-mark map map-bytes q (2 * i) (omega arith), e)

    -- and the second
    pub second-kind : cell_kind (bits_at strip q) (marks_at map q) (2 * i + 1)
        ≡ second_in (level strip (2 * (8 * q + i) + 1)) (one-if (marks_in map (2 * (8 * q + i) + 1)))
    unfolding cell_kind
    second-kind =
        let e : 16 * q + (2 * i + 1) ≡ 2 * (8 * q + i) + 1 = omega arith in
        let z : (2 * i + 1) % 2 ≡ 1 = omega arith in
        rw (z, cell-level strip strip-bytes q (2 * i + 1) (omega arith), cell-mark map map-bytes q (2 * i + 1) (omega arith), e)

-- a cell shows the bit b just where its level is as odd
shows : (l : ℕ) (b : Bool) → eqb (l % 2) (one-if b) ≡ beq (odd l) b
unfolding one-if
shows l b = ap (λ (n : ℕ). eqb n (one-if b)) (mod-odd l) ∙ go (odd l) b
  where
    go : (x y : Bool) → eqb (one-if x) (one-if y) ≡ beq x y
    go true true = refl
    go true false = refl
    go false true = refl
    go false false = refl

-- a kind that is never raised has no step
steps-closed : (W : List ℕ) → length W ≡ 3 → (k : ℕ) → 3 ≤ k → k < 8 → get_or (step_list W) k 0 ≡ closed
unfolding step_list
steps-closed W three k h l =
    let e : k ≡ length W + (k - 3) = omega arith in
    ap (λ (n : ℕ). get_or (W ++ replicate 5 closed) n 0) e
    ∙ get_or-append-add W (replicate 5 closed) (k - 3) 0
    ∙ get_or-replicate 5 (k - 3) closed 0 (omega arith)

-- the price of a bit, by three weights of a byte each, tells the price of the plain search
pub price-decoded : (W : List ℕ) → Weights W → (l : ℕ) (mark b : Bool) → l ≤ 3
    → Decodes closed 255 (price_for (step_list W) (l + 4 * one-if mark) (one-if b))
    (bit_price (steps_of W) (record { level = l; mark = mark }) b)
unfolding price_for bit_price keep-or-raise solution_cost weight_of step_list one-if
price-decoded W K l mark b h =
    let e : (l + 4 * one-if mark) % 2 ≡ l % 2 = omega arith in
    rw (e, shows l b, le-ltb 3 l h) (go (beq (odd l) b) mark (ltb l 3) refl)
  where
    step : (k : ℕ) → k < 3 → get_or (step_list W) k 0 ≡ get_or W k 0
    step k i = get_or-append W (replicate 5 closed) 0 k (omega (arith, K.three))

    go : (q m r : Bool) → ltb l 3 ≡ r → Decodes closed 255 (cond q 0 (get_or (step_list W) (l + 4 * one-if m) 0))
        (solution_cost (cond q (some (record { cost = 0; levels = l ∷ [] }))
        (cond m none (cond r (some (record { cost = get_or W l 0; levels = suc l ∷ [] })) none))))
    go true m r e = open_at {c = 0} (omega arith)
    go false true r e = rw (steps-closed W K.three (l + 4 * 1) (omega arith) (omega arith)) (shut {v = closed} (omega arith))
    go false false true e =
        let z : l + 4 * 0 ≡ l = omega arith in
        rw (z, step l (ltb-true l 3 e)) (open_at {c = get_or W l 0} (K.bytes l))
    go false false false e =
        rw (steps-closed W K.three (l + 4 * 0) (omega (arith, ltb-false l 3 e)) (omega arith)) (shut {v = closed} (omega arith))

-- a marked cell costs as much as a full one of which the other bit is asked where it shows 0
as-full : (W : List ℕ) → length W ≡ 3 → (l w : ℕ) → l ≤ 3 → w < 2
    → price_for (step_list W) 3 ((w + 1 + l) % 2) ≡ price_for (step_list W) (l + 4 * 1) w
unfolding price_for
as-full W three l w i j =
    let x : (w + 1 + l) % 2 ≡ (w + 1 + l % 2) % 2 = omega arith in
    let y : (l + 4 * 1) % 2 ≡ l % 2 = omega arith in
    rw (
      x,
      y,
      go (l % 2) w (mod-lt _ (zero-lt-suc 1)) j,
      steps-closed W three 3 (omega arith) (omega arith),
      steps-closed W three (l + 4 * 1) (omega arith) (omega arith),
    )
  where
    go : (b v : ℕ) → b < 2 → v < 2 → eqb 1 ((v + 1 + b) % 2) ≡ eqb b v
    go zero zero h k = refl
    go zero (suc zero) h k = refl
    go zero (suc (suc v)) h k = absurd (let z : ⊥ = omega arith in z)
    go (suc zero) zero h k = refl
    go (suc zero) (suc zero) h k = refl
    go (suc zero) (suc (suc v)) h k = absurd (let z : ⊥ = omega arith in z)
    go (suc (suc b)) v h k = absurd (let z : ⊥ = omega arith in z)

-- the label of a row that is counted round
turned : (k p b r : ℕ) → k ≤ 7 → p ≤ 1 → b ≤ 1 → r ≡ (k + 8 * (3 + 4 * p) + b * 32) % 64 → r / 32 ≡ (p + b) % 2
turned k p b r h i j e = omega arith

-- the bit that is asked by it
asked : (v l b : ℕ) → (v + ((1 + l) % 2 + b) % 2) % 2 ≡ ((v + b) % 2 + 1 + l) % 2
asked v l b = omega arith

-- THE ROW of a stage of two cells and a label
abbrev stage_at : Cell → Cell → Bool → Stage
stage_at x y a = record { adds = a ∷ []; cells = x ∷ y ∷ [] }

-- a second cell and a label in a row r that has the first cell's kind k
module _ (W : List ℕ) (K : Weights W) (k l r : ℕ) (a : Bool) (k-le : k ≤ 7) (l_le : l ≤ 3) where
  -- it tells the price of the bit that the word asks of the cell, the label added
  second-decoded : (mark : Bool) → r ≡ (k + 8 * second_in l (one-if mark) + one-if a * 32) % 64 → (v : ℕ) → v < 2
      → Decodes closed 255 (price_for (step_list W) (r / 8 % 4) ((v + r / 32) % 2)) (bit_price (steps_of W) (record { level = l; mark = mark })
      (odd v +₂ a))
  unfolding second_in one-if
  second-decoded false e v h =
      let n = one-if-le a in
      let d : r / 8 % 4 ≡ l + 4 * 0 = omega arith in
      let f : (v + r / 32) % 2 ≡ (v + one-if a) % 2 = omega arith in
      let g : (v + one-if a) % 2 ≡ one-if (odd v +₂ a) = ap (λ (i : ℕ). (i + one-if a) % 2) (sym (one-if-odd v h)) ∙ sum-bits (odd v) a in
      rw (d, f, g) (price-decoded W K l false (odd v +₂ a) l_le)
  second-decoded true e v h =
      let n = one-if-le a in
      let d : r / 8 % 4 ≡ 3 = omega arith in
      let f : (v + r / 32) % 2 ≡ ((v + one-if a) % 2 + 1 + l) % 2 =
      ap (λ (i : ℕ). (v + i) % 2) (turned k ((1 + l) % 2) (one-if a) r k-le (omega arith) n e) ∙ asked v l (one-if a) in
      let g : (v + one-if a) % 2 ≡ one-if (odd v +₂ a) = ap (λ (i : ℕ). (i + one-if a) % 2) (sym (one-if-odd v h)) ∙ sum-bits (odd v) a in
      rw (d, f, as-full W K.three l ((v + one-if a) % 2) l_le (mod-lt _ (zero-lt-suc 1)), g)
      (price-decoded W K l true (odd v +₂ a) l_le)

module _ (W rows : List ℕ) (P : Priced W rows) (x y : Cell) (r : ℕ) (a : Bool) (x-le : x.level ≤ 3) (y-le : y.level ≤ 3)
    (e : r ≡ (x.level + 4 * one-if x.mark + 8 * second_in y.level (one-if y.mark) + one-if a * 32) % 64) where
  -- the first cell's kind
  kind-there : r % 8 ≡ x.level + 4 * one-if x.mark
  unfolding second_in one-if
  kind-there = go y.mark e
    where
      go : (m : Bool) → r ≡ (x.level + 4 * one-if x.mark + 8 * second_in y.level (one-if m) + one-if a * 32) % 64
          → r % 8 ≡ x.level + 4 * one-if x.mark
      go true f = let n = one-if-le x.mark in omega arith
      go false f = let n = one-if-le x.mark in omega arith

  -- it tells the price of each word of such a stage
  word-decoded : (j : ℕ) → j ≤ 3 → Decodes closed 510 (row_price (step_list W) (4 * r + j)) ((one_bit_prices (steps_of W) (stage_at x y a)).of j)
  unfolding one_bit_prices cell_at
  word-decoded j h =
      let n = one-if-le x.mark in
      let l : r < 64 = omega arith in
      rw (row-price (step_list W) r j l h, kind-there, mod-odd j)
      (decodes-cut (decodes-add (price-decoded W P.weights x.level x.mark (odd j) x-le)
      (second-decoded W P.weights (x.level + 4 * one-if x.mark) y.level r a (omega arith) y-le y.mark e (j / 2)
      (omega arith))) (omega arith))

  -- and the bit that its first cell shows
  cells-quoted : Quoted 256 closed 510 rows r (one_bit_prices (steps_of W) (stage_at x y a))
  unfolding one_bit_prices cell_at
  cells-quoted =
      let f : r % 2 ≡ x.level % 2 = omega (arith, kind-there) in
      record {
        plain = λ j. row_price (step_list W) (4 * r + j);
        in_units = λ j h. P.table.prices (4 * r + j) (let z : 4 * r + j < 256 = omega arith in z);
        tells = word-decoded;
        low = f ∙ mod-odd x.level;
      }

-- THE MAIN LAW. The row that a block picks for its stage i tells the prices of that stage, and the bit that wins a tie
pub row-quoted : (W rows : List ℕ) → Priced W rows → (strip map : List ℕ) → ((k : ℕ) → get_or strip k 0 < 256)
    → ((k : ℕ) → get_or map k 0 < 256) → (G : Generators) (content : List ℕ) (q i labels picks : ℕ) → i < 8
    → pick_at picks i ≡ stage_row (bits_at strip q) (marks_at map q) labels i % 64
    → labels / 2 ^ (7 - i) % 2 ≡ one-if (label_for G content (8 * q + i))
    → Quoted 256 closed 510 rows (pick_at picks i) (quote_for W (stage_for G strip (marks_in map) content (8 * q + i)))
unfolding stage_row
row-quoted W rows P strip map strip-bytes map-bytes G content q i labels picks h e f =
    let c = 2 * (8 * q + i) in
    cells-quoted W rows P (cell_for strip (marks_in map) c) (cell_for strip (marks_in map) (c + 1)) (pick_at picks i)
    (label_for G content (8 * q + i)) (level-bound strip c) (level-bound strip (c + 1))
    (e ∙ ap (λ (n : ℕ). n % 64) (ap₂ (λ (m n : ℕ). m + n * 32)
    (ap₂ (λ (m n : ℕ). m + 8 * n) (first_kind strip map strip-bytes map-bytes q i h)
    (second-kind strip map strip-bytes map-bytes q i h)) f))
