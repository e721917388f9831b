-- The stages of a strip in the plain search, and what the numbers of the states tell over blocks of them, from the last block to the first.
--   Suits, suits, suits-sound   what the program asks of a code and its weights, and that every code has it
--   words_le, state-inside, next-zero, next_one   the words and the next states of a code
--   label-bit                   the label of a stage
--   stages-pairs, stages-are    the stages of a strip are those of the search
--   BlocksDecoded               what the loop over the blocks holds
--   blocks_last, block-decoded, blocks_more   at its start, and through a turn
--   blocks-first                at its end: the number of state 0 tells the strip's outcome
--   block-quoted                the rows of a block tell the prices of its stages
--   TracedFrom, traced-more     the history of the blocks from q on
--   block-lows                  the bits that the first cells of a block show
--   store-back                  a loop that stores from the last place back
use mathlib.Core.Path.{◌≡◌, refl, sym, ◌∙◌, ap, fun_ext, subst}
use mathlib.Core.Bool.{Bool, true, false}
use mathlib.Core.Logic.{⊎_elim}
use mathlib.Core.List.{List, ◌∷◌}
use mathlib.Core.Option.{Option, none, some}
use Prim.Native.Nat.{ℕ, zero, suc, ◌<◌, ◌≤◌, ◌+◌, ◌*◌, ◌-◌, ◌/◌, ◌%◌, ◌^◌}
use native.Mathlib.Omega.{arith}
use native.Mathlib.Nat.{mod-lt, zero-lt-suc, pow-suc, eq-or-lt_of_le}
use lib.Arith.{mod-mul}
use lib.Pow.{pow_pos}
use lib.ListN.{length, get_or, set, replicate, length-replicate, length-map}
use lib.Seq.{get_or-set_same, get_or-set_other}
use borrow.Author.Tests.{lt-ltb, le-ltb}
use Rattle.cells.specs.Places.{list_of, Each, no_more, and_each}
use Rattle.cells.specs.Bytes.{bit_of}
use Rattle.cells.specs.Levels.{level}
use Rattle.cells.specs.Climbs.{Weights}
use Rattle.cells.specs.Marks.{marks_in}
use Rattle.cells.proofs.Places.{zeros-at, list_of-same}
use Rattle.codes.specs.Generators.{Generators}
use Rattle.codes.specs.Codes.{generators_of}
use Rattle.codes.specs.declared.Code.{Code}
use Rattle.codes.specs.Layouts.{one_bit, stage_count}
use Rattle.codes.specs.Sequences.{odd}
use Rattle.codes.specs.Numbers.{one-if}
use Rattle.codes.specs.Taps.{word_of, parity_of, window_of, first_bit}
use Rattle.codes.specs.Encoders.{encoder_of, Proper}
use Rattle.codes.specs.Blocks.{label_at}
use Rattle.codes.proofs.Codes.{memory-bounds, proper}
use Rattle.codes.proofs.Layouts.{one_bit-stages, one_bit-cells}
use Rattle.codes.proofs.Windows.{window-byte, window-of-word, label-bound}
use Rattle.search.specs.Best.{Solution}
use Rattle.search.specs.Strip.{Dear, cells_of, steps_of}
use Rattle.search.specs.Search.{Stage, labels, stages}
use Rattle.search.specs.Parity.{parity-choice}
use Rattle.search.specs.Plan.{solution_cost, costs}
use Rattle.search.specs.Numbered.{next_n}
use Rattle.search.specs.OneBit.{one_bit_prices}
use Rattle.search.specs.Layouts.{data_bits, strip_cells, stages_of, rewrite_of, Sound}
use Rattle.search.proofs.Plain.{plain-cost}
use Rattle.search.proofs.OneBit.{Pair, pair, Both, code-both, one_bit-quotes}
use Rattle.search.proofs.Layouts.{one_bit-sound, one_bit-write}
use Rattle.stages.specs.Stage.{closed, ceiling, words_of}
use Rattle.stage_blocks.specs.Blocks.{pick_at, Ran, Settled, Kept}
use Rattle.stages.specs.Costs.{Decodes, open_at, shut, Trailed, open_with}
use Rattle.stages.specs.Trails.{stages_from, Quoted}
use Rattle.stage_blocks.proofs.Runs.{settled-le}
use Rattle.stage_blocks.proofs.Costs.{decoded-settled, decoded-low, decoded-cost}
use Rattle.stage_blocks.proofs.Trails.{run-decoded}
use Rattle.prices.specs.Prices.{Priced}
use Rattle.rows.specs.Rows.{stage_row, bits_at, marks_at, packed_of}
use Rattle.rows.specs.Stages.{encoder_for, label_for, cell_for, stage_for, quote_for}
use Rattle.trellis.specs.Ways.{next_for, stages_for, costs_for, trail_for, blocks_for}
use Rattle.trellis.specs.Outcomes.{decoded_outcome, solution_outcome}
use Rattle.trellis.specs.Plans.{write_of}
use Rattle.rows.proofs.Quotes.{picks-are, first_kind, row-quoted}

-- what the program asks of a code and its weights: two generators that begin with 1, and weights of three bytes
pub record Suits (G : Generators) (W : List ℕ) : Type 0 where
  pub proper : Proper G
  pub both : Both G
  pub reach : G.memory ≤ 6
  pub weights : Weights W

-- every code suits weights of three bytes
pub suits : (c : Code) (W : List ℕ) → Weights W → Suits (generators_of c) W
suits c W K = record { proper = proper c; both = code-both c; reach = (memory-bounds c.name).1; weights = K }

-- a code that suits goes with one bit a cell
pub suits-sound : {G : Generators} {W : List ℕ} → Suits G W → Sound one_bit G
suits-sound {G} K = one_bit-sound G K.both.g1-leads (ap length K.both.two)

-- WORDS AND STATES. A word is one of four
pub words_le : (G : Generators) (s : ℕ) → words_of G s ≤ 3
unfolding word_of parity_of
words_le G s = omega arith

module _ (G : Generators) (p : 0 < G.memory) where
  -- the states are twice a half of them
  twice : 2 ^ G.memory ≡ 2 ^ (G.memory - 1) * 2
  twice = let e : G.memory ≡ suc (G.memory - 1) = omega arith in ap (λ (m : ℕ). 2 ^ m) e ∙ pow-suc 2 (G.memory - 1)

  -- twice a state and a digit, among the states
  doubled : (s b : ℕ) → b < 2 → (2 * s + b) % 2 ^ G.memory ≡ s % 2 ^ (G.memory - 1) * 2 + b
  doubled s b h =
      let x : (2 * s + b) / 2 ≡ s = omega arith in
      let y : (2 * s + b) % 2 ≡ b = omega arith in
      ap (λ (n : ℕ). (2 * s + b) % n) twice ∙ mod-mul (2 * s + b) (pow_pos (G.memory - 1)) (zero-lt-suc 1)
      ∙ ap (λ (n : ℕ). n % 2 ^ (G.memory - 1) * 2 + (2 * s + b) % 2) x ∙ ap (λ (n : ℕ). s % 2 ^ (G.memory - 1) * 2 + n) y

  -- the same without the digit
  doubled-even : (s : ℕ) → 2 * s % 2 ^ G.memory ≡ s % 2 ^ (G.memory - 1) * 2
  doubled-even s =
      let e : 2 * s ≡ 2 * s + 0 = omega arith in
      let f : s % 2 ^ (G.memory - 1) * 2 + 0 ≡ s % 2 ^ (G.memory - 1) * 2 = omega arith in
      ap (λ (n : ℕ). n % 2 ^ G.memory) e ∙ doubled s 0 (omega arith) ∙ f

  -- both states that follow are states
  pub state-inside : (s : ℕ) → 2 * s % 2 ^ G.memory + 1 < 2 ^ G.memory
  state-inside s = omega (arith, doubled-even s, twice, mod-lt s (pow_pos (G.memory - 1)))

  -- the state that follows with the digit 0
  pub next-zero : (g : Stage) (s : ℕ) → next_for G g s false ≡ 2 * s % 2 ^ G.memory
  unfolding next_n one-if
  next-zero g s = let e : 2 * s + 0 ≡ 2 * s = omega arith in ap (λ (n : ℕ). n % 2 ^ G.memory) e

  -- and with the digit 1
  pub next_one : (g : Stage) (s : ℕ) → next_for G g s true ≡ 2 * s % 2 ^ G.memory + 1
  unfolding next_n one-if
  next_one g s = doubled s 1 (omega arith) ∙ ap (λ (n : ℕ). n + 1) (sym (doubled-even s))

-- LABELS. The data bits of one data bit a stage
data-bits : (content : List ℕ) → data_bits one_bit content 0 ≡ (λ t. odd (bit_of content t))
unfolding data_bits
data-bits content = fun_ext λ t. ap (λ (n : ℕ). odd (bit_of content n)) (omega arith)

-- the label of a stage
pub label-bit : (G : Generators) (content : List ℕ) (t : ℕ) → label_at G content t ≡ one-if (label_for G content t)
unfolding label_at
label-bit G content t = rw (data-bits content)

-- THE STAGES of a strip: each has two cells and a label
module _ (G : Generators) (strip : List ℕ) (marks : ℕ → Bool) (content : List ℕ) where
  pub stages-pairs : (t k : ℕ) → Each Pair (stages_for G strip marks content t k)
  unfolding stages_from
  stages-pairs t zero = no_more
  stages-pairs t (suc k) = and_each pair (stages-pairs (suc t) k)

  module _ (K : Both G) where
    -- one label a stage
    one-other : length (encoder_of G).others ≡ 1
    unfolding encoder_of
    one-other = length-map G.others _ ∙ ap length K.two

    -- they are those of the search
    stages-from : (t k : ℕ) → stages (encoder_for G) (data_bits one_bit content) 2 t k (list_of (k * 2) (λ c. cell_for strip marks (2 * t + c)))
        ≡ stages_for G strip marks content t k
    unfolding stages stages_from labels list_of
    stages-from t zero = refl
    stages-from t (suc k) =
        let e : suc k * 2 ≡ suc (suc (k * 2)) = omega arith in
        let z : 2 * t + 0 ≡ 2 * t = omega arith in
        let f : (i : ℕ) → 2 * t + suc (suc i) ≡ 2 * suc t + i = omega arith in
        rw (e, z, one-other)
        (ap (λ (l : List Stage). stage_for G strip marks content t ∷ l)
        (ap (stages (encoder_for G) (data_bits one_bit content) 2 (suc t) k) (list_of-same (k * 2) _ _ (λ i h. ap (cell_for strip marks) (f i)))
        ∙ stages-from (suc t) k))

    -- all stages of a strip for L bytes of data
    pub stages-are : (L : ℕ) → stages_of one_bit (encoder_for G) L strip marks content ≡ stages_for G strip marks content 0 (8 * L)
    unfolding stages_of strip_cells cells_of
    stages-are L =
        let e : 16 * L ≡ 8 * L * 2 = omega arith in
        let f : (i : ℕ) → i ≡ 2 * 0 + i = omega arith in
        rw (one_bit-stages L, one_bit-cells L)
        (ap (stages (encoder_for G) (data_bits one_bit content) 2 0 (8 * L))
        (ap (λ (n : ℕ). list_of n (cell_for strip marks)) e ∙ list_of-same (8 * L * 2) _ _ (λ i h. ap (cell_for strip marks) (f i)))
        ∙ stages-from 0 (8 * L))

-- THE COST of state 0 before the first stage of L blocks is the write's
pub cost-start : (G : Generators) (W : List ℕ) → Suits G W → Dear (steps_of W)
    → (L : ℕ) (strip : List ℕ) (marks : ℕ → Bool) (content : List ℕ)
    → costs_for G W (stages_for G strip marks content 0 (8 * L)) 0 ≡ solution_cost (rewrite_of one_bit G W L strip marks content)
unfolding stages_of
cost-start G W K D L strip marks content =
    rw (← (stages-are G strip marks content K.both L))
    (plain-cost (encoder_for G) (parity-choice (steps_of W)) (words_of G) (one_bit_prices (steps_of W)) Pair
    (one_bit-quotes G.memory G K.both (steps_of W))
    (data_bits one_bit content) 2 (stage_count one_bit L) (strip_cells one_bit L strip marks)
    (rw (stages-are G strip marks content K.both L) (stages-pairs G strip marks content 0 (8 * L)))
    ∙ ap solution_cost (one_bit-write G.memory G (suits-sound K) (omega arith) W D L strip marks content))

-- A LOOP over the blocks from the last to the first holds, before block q, the eight labels before it and numbers that tell what the states
-- cost from there on, for all weights whose table it has
pub record BlocksDecoded (G : Generators) (rows strip : List ℕ) (marks : ℕ → Bool) (content : List ℕ) (q before : ℕ)
    (numbers : List ℕ) : Type 0 where
  pub within : q ≤ length content
  pub labels-are : before ≡ window_of 8 (label_at G content) (8 * q)
  pub size : length numbers ≡ 64
  pub cut : (i : ℕ) → get_or numbers i 0 ≤ ceiling
  pub told : (W : List ℕ) → Priced W rows → (s : ℕ) → s < 2 ^ G.memory
      → Trailed 256 closed (510 * (8 * (length content - q))) 0 (get_or numbers s 0)
      (costs_for G W (blocks_for G strip marks content (length content) q) s) 0

module _ (G : Generators) (rows strip : List ℕ) (marks : ℕ → Bool) (content : List ℕ) where
  -- the number of blocks
  abbrev n : ℕ
  n = length content

  -- after the last block nothing costs anything
  pub blocks_last : {before : ℕ} → before ≡ window_of 8 (label_at G content) (8 * n)
      → BlocksDecoded G rows strip marks content n before (replicate 64 0)
  unfolding stages_from costs
  blocks_last e =
      let z : 8 * (n - n) ≡ 0 = omega arith in record {
        within = omega arith;
        labels-are = e;
        size = length-replicate {A = ℕ} 64 0;
        cut = λ i. omega (arith, zeros-at 64 i);
        told = λ W P s h. rw (z, zeros-at 64 s) (open_with {v = 0} {c = 0} {t = 0} (omega arith) (omega arith) (omega arith));
      }

  -- A TURN goes from before block q + 1 to before block q, by the numbers before the block and after it is settled
  module _ (K : Proper G) (q picks : ℕ) {before : ℕ} {numbers ran : List ℕ} (most : n ≤ 64) (inside : q < n)
      (h : BlocksDecoded G rows strip marks content (q + 1) before numbers)
      (quoted : (W : List ℕ) → Priced W rows → (i : ℕ) → i < 8
      → Quoted 256 closed 510 rows (pick_at picks i) (quote_for W (stage_for G strip marks content (8 * q + i))))
      (r : Ran (2 ^ G.memory) (words_of G) rows picks numbers ran) where
    -- the numbers before the block tell costs and trails
    pub block-decoded : (W : List ℕ) → Priced W rows → (s : ℕ) → s < 2 ^ G.memory
        → Trailed 256 closed (510 * (8 * (n - q))) 8 (get_or ran s 0) (costs_for G W (blocks_for G strip marks content n q) s)
        (trail_for G W 8 (blocks_for G strip marks content n q) s)
    block-decoded W P s l =
        let later : ℕ = 8 * (n - (q + 1)) in
        let z : 8 * q + (8 - 8) ≡ 8 * q = omega arith in
        let e : 8 + later ≡ 8 * (n - q) = omega arith in
        let f : 8 * (q + 1) ≡ 8 * q + 8 = omega arith in
        let b : 8 * 510 + 510 * later ≡ 510 * (8 * (n - q)) = omega arith in
        let room : 8 * 510 + 510 * later < closed = omega arith in
        subst (λ (v : ℕ). Trailed 256 closed (510 * (8 * (n - q))) 8 v (costs_for G W (blocks_for G strip marks content n q) s)
        (trail_for G W 8 (blocks_for G strip marks content n q) s)) (sym (r.states s l))
        (rw (z, e, b) at
        (run-decoded (2 ^ G.memory) (words_of G) (words_le G) (quote_for W) (next_for G) (state-inside G K.some_memory)
        (next-zero G K.some_memory) (next_one G K.some_memory) 8 256 closed 510 (510 * later) (8 * q) later
        (stage_for G strip marks content) rows picks (λ i. get_or numbers i 0) (quoted W P) (rw f at (h.told W P)) room (omega arith)
        8 (omega arith) s l))

    -- and once they are settled the turn is done
    pub blocks_more : {earlier : ℕ} {settled : List ℕ} → earlier ≡ window_of 8 (label_at G content) (8 * q)
        → Settled (2 ^ G.memory) ran settled
        → BlocksDecoded G rows strip marks content q earlier settled
    blocks_more {settled = settled} e t = record {
      within = omega arith;
      labels-are = e;
      size = t.size;
      cut = settled-le t (λ i l. omega (arith, r.others i l, h.cut i));
      told = λ W P s l.
          subst (λ (v : ℕ). Trailed 256 closed (510 * (8 * (n - q))) 0 v (costs_for G W (blocks_for G strip marks content n q) s) 0)
          (sym (t.states s l)) (decoded-settled (omega arith) (omega arith) (block-decoded W P s l));
    }

-- AN OUTCOME by the number that tells the cost of a solution
outcome-decoded : (m v : ℕ) (r : Option Solution) → m < closed → Decodes closed m v (solution_cost r) → decoded_outcome v ≡ solution_outcome r
unfolding solution_cost solution_outcome
outcome-decoded m v none l (shut h) = rw (le-ltb v closed h)
outcome-decoded m v (some a) l (open_at h) = rw (lt-ltb v closed (omega arith))

-- before the first block the number of state 0 tells the strip's outcome
pub blocks-first : {G : Generators} {rows strip : List ℕ} {marks : ℕ → Bool} {content : List ℕ} {before : ℕ} {numbers : List ℕ}
    → length content ≤ 64
    → BlocksDecoded G rows strip marks content 0 before numbers → (W : List ℕ) → Suits G W → Priced W rows
    → decoded_outcome (get_or numbers 0 0 / 256) ≡ solution_outcome (write_of G W strip marks content)
blocks-first {G} {rows} {strip} {marks} {content} {before} {numbers} most h W K P =
    let z : length content - 0 ≡ length content = omega arith in
    outcome-decoded (510 * (8 * length content)) (get_or numbers 0 0 / 256) (write_of G W strip marks content) (omega arith)
    (rw (z, cost-start G W K P.dear (length content) strip marks content) at (decoded-cost (h.told W P 0 (pow_pos G.memory))))

-- THE ROWS of block q, by its labels, its bits and its marks, tell the prices of its stages
pub block-quoted : (G : Generators) {rows strip : List ℕ} (map : List ℕ) {content numbers : List ℕ} (q picks : ℕ) {before : ℕ}
    → ((k : ℕ) → get_or strip k 0 < 256) → ((k : ℕ) → get_or map k 0 < 256)
    → BlocksDecoded G rows strip (marks_in map) content (q + 1) before numbers
    → picks ≡ packed_of 8 (stage_row (bits_at strip q) (marks_at map q) before) 8 → (W : List ℕ) → Priced W rows → (i : ℕ) → i < 8
    → Quoted 256 closed 510 rows (pick_at picks i) (quote_for W (stage_for G strip (marks_in map) content (8 * q + i)))
block-quoted G {rows} {strip} map {content} q picks {before} octets marks h p W P i l =
    let z : 8 * q + (7 - (7 - i)) ≡ 8 * q + i = omega arith in
    let m : 7 - i < 8 = omega arith in
    row-quoted W rows P strip map octets marks G content q i before picks l (picks-are _ _ _ picks p i l)
    (ap (λ (w : ℕ). w / 2 ^ (7 - i) % 2) h.labels-are ∙ window-byte (label_at G content) (label-bound G content) q (7 - i) m
    ∙ ap (label_at G content) z ∙ label-bit G content (8 * q + i))

-- THE HISTORY has the trails of the blocks from q on
pub record TracedFrom (G : Generators) (rows strip : List ℕ) (marks : ℕ → Bool) (content history : List ℕ) (q : ℕ) : Type 0 where
  pub size : length history ≡ 4096
  pub trails : (W : List ℕ) → Priced W rows → (k : ℕ) → q ≤ k → k < length content → (s : ℕ) → s < 2 ^ G.memory
      → (costs_for G W (blocks_for G strip marks content (length content) k) s ≡ none → ⊥)
      → get_or history (64 * k + s) 0 ≡ trail_for G W 8 (blocks_for G strip marks content (length content) k) s

-- one block more, whose numbers tell its trails
pub traced-more : (G : Generators) {rows strip : List ℕ} {marks : ℕ → Bool} {content history history' ran : List ℕ} {m : ℕ} (q : ℕ)
    → 2 ^ G.memory ≤ 64
    → TracedFrom G rows strip marks content history (q + 1) → Kept (2 ^ G.memory) q ran history history'
    → ((W : List ℕ) → Priced W rows → (s : ℕ) → s < 2 ^ G.memory → Trailed 256 closed m 8 (get_or ran s 0)
    (costs_for G W (blocks_for G strip marks content (length content) q) s)
    (trail_for G W 8 (blocks_for G strip marks content (length content) q) s))
    → TracedFrom G rows strip marks content history' q
traced-more G {rows} {strip} {marks} {content} {history} {history'} {ran} q fits t k told = record {
  size = k.size;
  trails = λ W P j h l s b some-cost. ⊎_elim
      (λ (e : q ≡ j). rw (← e) (k.here s b ∙ decoded-low (told W P s b) (rw e some-cost)))
      (λ (e : q < j). k.after (64 * j + s) (omega arith) ∙ t.trails W P j (omega arith) l s b some-cost)
      (eq-or-lt_of_le h);
}

-- THE LOWS. The row of a stage is odd where its first cell shows a one
pub block-lows : (strip map : List ℕ) (q picks before : ℕ) {r : ℕ} → ((k : ℕ) → get_or strip k 0 < 256) → ((k : ℕ) → get_or map k 0 < 256)
    → picks ≡ packed_of 8 (stage_row (bits_at strip q) (marks_at map q) before) 8 → r ≡ window_of 8 (λ i. picks / 2 ^ (8 * i) % 2) 8
    → r ≡ window_of 8 (first_bit (level strip)) (8 * (q + 1))
unfolding pick_at stage_row first_bit
block-lows strip map q picks before octets marks p f =
    f ∙ window-of-word picks 8 (first_bit (level strip)) (λ t. mod-lt _ (zero-lt-suc 1)) q
    (λ i l.
    let c = 2 * (8 * q + i) in
    even-row (picks / 2 ^ (8 * i)) _ (level strip c) (one-if (marks_in map c)) _ (before / 2 ^ (7 - i) % 2) (picks-are _ _ _ picks p i l)
    (first_kind strip map octets marks q i l))
  where
    even-row : (x kind first mark second label : ℕ) → x % 64 ≡ (kind + 8 * second + label * 32) % 64 → kind ≡ first + 4 * mark
        → x % 2 ≡ first % 2
    even-row x kind first mark second label h k = omega arith

-- STORES. A loop that stores f k at each place k from the last back has stored one more
pub store-back : (r : List ℕ) (n u x : ℕ) (f : ℕ → ℕ) → u < length r → x ≡ f u → ((k : ℕ) → suc u ≤ k → k < n → get_or r k 0 ≡ f k)
    → (k : ℕ) → u ≤ k → k < n → get_or (set r u x) k 0 ≡ f k
store-back r n u x f h e p k l m = ⊎_elim
    (λ (z : u ≡ k). rw (← z) (get_or-set_same r u x 0 h ∙ e))
    (λ (z : u < k). get_or-set_other r u k x 0 (λ y. omega arith) ∙ p k z m)
    (eq-or-lt_of_le l)
