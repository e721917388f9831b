-- The digits that the program follows are those of the plan, and carried out they are the write.
--   path_state, path_digit    the states and the digits of the plan from state 0
--   path-open                 along the plan of a strip that has a write every state has a cost
--   path-followed             what the history keeps and the bits of the first cells give these digits
--   carried-is                these digits, carried out, raise the cells to the levels of the write
--   followed-plans            so the bytes of digits that are followed are a plan
--   strip-near, write-below   a write raises no cell by more than one, and costs less than closed
use mathlib.Core.Path.{◌≡◌, refl, sym, ◌∙◌, ap, ap₂, fun_ext}
use mathlib.Core.Bool.{Bool, true, false, not, beq}
use mathlib.Core.List.{List, ◌∷◌, ◌++◌}
use mathlib.Core.Option.{Option, none, some}
use Prim.Native.Nat.{ℕ, zero, suc, ◌<◌, ◌≤◌, ◌+◌, ◌*◌, ◌-◌, ◌/◌, ◌%◌, ◌^◌}
use native.Mathlib.Omega.{arith}
use native.Mathlib.Nat.{mod-lt, zero-lt-suc}
use lib.Bits.{bit_xor}
use lib.ListN.{length, get_or}
use Rattle.cells.specs.Levels.{level}
use Rattle.cells.proofs.Levels.{level-bound}
use Rattle.codes.specs.Generators.{Generators}
use Rattle.codes.specs.Layouts.{one_bit, stage_count, cell_count}
use Rattle.codes.specs.Sequences.{◌+₂◌, odd}
use Rattle.codes.specs.Numbers.{one-if}
use Rattle.codes.specs.Taps.{taps_of, parity_of, window_of, first_bit}
use Rattle.codes.proofs.Numbers.{one-if-le, sum-bits}
use Rattle.codes.proofs.Layouts.{one_bit-cells}
use Rattle.codes.proofs.Taps.{first-bound, window-less}
use Rattle.codes.proofs.Divisions.{parity-less}
use Rattle.codes.proofs.Windows.{window-suc, window-parts, window-byte, windows-give, xor-windows}
use Rattle.search.specs.Best.{Solution}
use Rattle.search.specs.Strip.{Dear, steps_of}
use Rattle.search.specs.Levels.{cell_at, level_at}
use Rattle.search.specs.Search.{Stage}
use Rattle.search.specs.Parity.{parity-choice}
use Rattle.search.specs.Plan.{solution_cost, way, costs, plan, play}
use Rattle.search.specs.Numbered.{branch_n, next_n}
use Rattle.search.specs.Plain.{branch_word, branch_price}
use Rattle.search.specs.OneBit.{one_bit_prices}
use Rattle.search.specs.Layouts.{data_bits, strip_cells, stages_of, rewrite_of}
use Rattle.search.proofs.Best.{some-none, joined-both}
use Rattle.search.proofs.Plan.{play-shut}
use Rattle.search.proofs.Plain.{plain-write}
use Rattle.search.proofs.Parity.{held, raised-held}
use Rattle.search.proofs.OneBit.{Pair, word-by, one_bit-quotes, one_bit-held}
use Rattle.search.proofs.Layouts.{one_bit-write}
use Rattle.search.proofs.Windows.{mod-odd, first_of, second_of, parity-number, word-odd}
use Rattle.stages.specs.Stage.{closed, words_of}
use Rattle.stages.specs.Trails.{stages_from, price_by, tie_by, miss_of, digit_of, trail_of}
use Rattle.rows.specs.Stages.{encoder_for, label_for, cell_for, stage_for, quote_for}
use Rattle.trellis.specs.Ways.{next_for, stages_for, costs_for, trail_for, Traced, Lows, Followed}
use Rattle.carrying.specs.Carrying.{digit_in, wanted_first, wanted_second, wanted_of, carried_to}
use Rattle.trellis.specs.Plans.{write_of, Plans}
use Rattle.stages.proofs.Sums.{Below, at_most, below-decoded, below-add, below-lesser, below-some}
use Rattle.rows.proofs.Quotes.{price-decoded}
use Rattle.trellis.proofs.Ways.{Suits, suits-sound, label-bit, stages-pairs, stages-are, cost-start}

-- a bit as a number is below 2
one_less : (b : Bool) → one-if b < 2
one_less b = omega (arith, one-if-le b)

-- CARRYING OUT one stage, whose last digits come to the state s and the digit d
module _ (G : Generators) (strip : List ℕ) (marks : ℕ → Bool) (content : List ℕ) (u : ℕ → ℕ) (t s : ℕ) (d : Bool)
    (e : window_of (suc G.memory) u (suc t) ≡ 2 * s + one-if d) where
  -- the first cell of a stage comes to the level that the branch of its state and digit holds
  carried_first : carried_to G strip content u (2 * t) ≡ held (cell_for strip marks (2 * t)) (first_of G (2 * s + one-if d))
  unfolding carried_to wanted_of wanted_first
  carried_first =
      let p : 2 * t % 2 ≡ 0 = omega arith in
      let q : 2 * t / 2 ≡ t = omega arith in
      rw (p, q, e)
      (ap (λ (v : ℕ). level strip (2 * t) + (level strip (2 * t) + v) % 2) (parity-number _ (2 * s + one-if d))
      ∙ raised-held (cell_for strip marks (2 * t)) (first_of G (2 * s + one-if d)))

  -- and so does the second
  carried-second : carried_to G strip content u (2 * t + 1)
      ≡ held (cell_for strip marks (2 * t + 1)) (second_of G (2 * s + one-if d) +₂ label_for G content t)
  unfolding carried_to wanted_of wanted_second
  carried-second =
      let p : (2 * t + 1) % 2 ≡ 1 = omega arith in
      let q : (2 * t + 1) / 2 ≡ t = omega arith in
      rw (p, q, e)
      (ap (λ (v : ℕ). level strip (2 * t + 1) + (level strip (2 * t + 1) + v) % 2)
      (ap₂ (λ (v x : ℕ). (v + x) % 2) (parity-number _ (2 * s + one-if d)) (label-bit G content t) ∙ sum-bits _ _)
      ∙ raised-held (cell_for strip marks (2 * t + 1)) (second_of G (2 * s + one-if d) +₂ label_for G content t))

-- THE PATH: the plan's states and digits from state 0
module _ (G : Generators) (W strip : List ℕ) (marks : ℕ → Bool) (content : List ℕ) (L : ℕ) where
  -- the stages after stage t, of L blocks
  abbrev after : ℕ → List Stage
  after t = stages_for G strip marks content (suc t) (8 * L - suc t)

  -- the plan's digit from the state s at stage t
  abbrev planned : ℕ → ℕ → Bool
  planned t s = digit_of (words_of G) (quote_for W) (next_for G) (stage_for G strip marks content t) (after t) s

  -- the state before stage t
  unfoldable pub path_state : ℕ → ℕ
  path_state zero = 0
  path_state (suc t) = next_for G (stage_for G strip marks content t) (path_state t) (planned t (path_state t))

  -- the digit of stage t
  unfoldable pub path_digit : ℕ → ℕ
  path_digit t = one-if (planned t (path_state t))

  -- 1 where its first code bit is not the one that wins ties
  unfoldable path_miss : ℕ → ℕ
  path_miss t = miss_of (words_of G) (quote_for W) (next_for G) (stage_for G strip marks content t) (path_state t) (planned t (path_state t))

  -- a digit is 0 or 1
  digit-less : (t : ℕ) → path_digit t < 2
  unfolding path_digit
  digit-less t = one_less _

  -- the states are the windows of the digits
  path-window : (t : ℕ) → path_state t ≡ window_of G.memory path_digit t
  unfolding path_state path_digit window_of next_n
  path-window zero = refl
  path-window (suc t) = ap (λ (s : ℕ). (2 * s + path_digit t) % 2 ^ G.memory) (path-window t)

  -- with the digit of the stage
  path-newest : (t : ℕ) → window_of (suc G.memory) path_digit (suc t) ≡ 2 * path_state t + path_digit t
  path-newest t = window-suc path_digit digit-less G.memory t ∙ ap (λ (s : ℕ). 2 * s + path_digit t) (sym (path-window t))

  -- THE SOLUTION of the plan from stage t on
  abbrev onward : ℕ → Option Solution
  onward t =
      play (branch_n (encoder_for G) (parity-choice (steps_of W))) (next_for G) (stages_for G strip marks content t (8 * L - t)) (path_state t)
      (plan (price_by (words_of G) (quote_for W) (next_for G)) (tie_by (words_of G) (quote_for W) (next_for G)) (next_for G)
      (stages_for G strip marks content t (8 * L - t)) (path_state t))

-- a stage is carried out as planned: the levels a are those of its two cells, and the plan's from the stage after it
record Onward (G : Generators) (W strip : List ℕ) (marks : ℕ → Bool) (content : List ℕ) (L t : ℕ) (a : Solution) : Type 0 where
  rest : Solution
  further : onward G W strip marks content L (suc t) ≡ some rest
  carried : a.levels
      ≡ carried_to G strip content (path_digit G W strip marks content L) (2 * t) ∷ carried_to G strip content
      (path_digit G W strip marks content L)
      (2 * t + 1)
      ∷ rest.levels

module _ (G : Generators) (W : List ℕ) (K : Suits G W) (strip : List ℕ) (marks : ℕ → Bool) (content : List ℕ) (L : ℕ) where
  -- the digits of the path
  abbrev u : ℕ → ℕ
  u = path_digit G W strip marks content L

  -- a stage is carried out as planned
  onward-step : (t : ℕ) → t < 8 * L → (a : Solution) → onward G W strip marks content L t ≡ some a → Onward G W strip marks content L t a
  unfolding play plan stages_from path_state path_digit digit_of
  onward-step t h a p =
      let z : 8 * L - t ≡ suc (8 * L - suc t) = omega arith in
      let s : ℕ = path_state G W strip marks content L t in
      let d : Bool = planned G W strip marks content L t s in
      let b = joined-both _ _ a (rw z at p) in
      let c = carried_first G strip marks content u t s d (path-newest G W strip marks content L t) in
      let g = carried-second G strip marks content u t s d (path-newest G W strip marks content L t) in
      record {
        rest = b.second;
        further = b.right;
        carried = rw (c, g) (b.append ∙ ap (λ (l : List ℕ). l ++ b.second.levels)
            (one_bit-held G.memory G K.both (steps_of W) (cell_for strip marks (2 * t)) (cell_for strip marks (2 * t + 1))
            (label_for G content t) s d
            b.first b.left));
      }

  -- and so are all from stage t on, of which there are k
  onward-carried : (k t : ℕ) → t + k ≡ 8 * L → (a : Solution) → onward G W strip marks content L t ≡ some a
      → (c : ℕ) → c < 2 * k → carried_to G strip content u (2 * t + c) ≡ level_at a.levels c
  unfolding level_at
  onward-carried zero t e a p c h = absurd (let z : ⊥ = omega arith in z)
  onward-carried (suc k) t e a p zero h = let z : 2 * t + 0 ≡ 2 * t = omega arith in rw (z, (onward-step t (omega arith) a p).carried)
  onward-carried (suc k) t e a p (suc zero) h = rw (onward-step t (omega arith) a p).carried
  onward-carried (suc k) t e a p (suc (suc c)) h =
      let z : 2 * t + suc (suc c) ≡ 2 * suc t + c = omega arith in
      let o = onward-step t (omega arith) a p in
      rw (z, o.carried) (onward-carried k (suc t) (omega arith) o.rest o.further c (omega arith))

  module _ (D : Dear (steps_of W)) where
    -- THE WRITE. The plan from state 0 is the write
    onward-write : onward G W strip marks content L 0 ≡ rewrite_of one_bit G W L strip marks content
    unfolding stages_of path_state
    onward-write =
        let z : 8 * L - 0 ≡ 8 * L = omega arith in
        rw (z, ← (stages-are G strip marks content K.both L))
        (plain-write (encoder_for G) (parity-choice (steps_of W)) (words_of G) (one_bit_prices (steps_of W)) Pair
        (one_bit-quotes G.memory G K.both (steps_of W))
        (data_bits one_bit content) 2 (stage_count one_bit L) (strip_cells one_bit L strip marks)
        (rw (stages-are G strip marks content K.both L) (stages-pairs G strip marks content 0 (8 * L)))
        ∙ one_bit-write G.memory G (suits-sound K) (omega arith) W D L strip marks content)

    -- so what is carried out are its levels
    carried-is : (a : Solution) → rewrite_of one_bit G W L strip marks content ≡ some a
        → (c : ℕ) → c < 16 * L → carried_to G strip content u c ≡ level_at a.levels c
    carried-is a e c h =
        let z : 2 * 0 + c ≡ c = omega arith in rw z at (onward-carried (8 * L) 0 (omega arith) a (onward-write ∙ e) c (omega arith))

    -- and along the plan every stage has a solution
    opened : (a : Solution) → rewrite_of one_bit G W L strip marks content ≡ some a → (t : ℕ) → t ≤ 8 * L
        → ((b : Solution) → onward G W strip marks content L t ≡ some b → ⊥) → ⊥
    opened a e zero h k = k a (onward-write ∙ e)
    opened a e (suc t) h k =
        opened a e t (omega arith) (λ b q. let p = onward-step t (omega arith) b q in k p.rest p.further)

    -- so every state on it has a cost
    pub path-open : (a : Solution) → rewrite_of one_bit G W L strip marks content ≡ some a → (t : ℕ) → t ≤ 8 * L
        → costs_for G W (stages_for G strip marks content t (8 * L - t)) (path_state G W strip marks content L t) ≡ none → ⊥
    path-open a e t h f =
        opened a e t h (λ b q. some-none b (sym q
        ∙ play-shut (branch_n (encoder_for G) (parity-choice (steps_of W))) (next_for G) (price_by (words_of G) (quote_for W) (next_for G)) Pair
        (one_bit-quotes G.memory G K.both (steps_of W)).priced
        (stages-pairs G strip marks content t (8 * L - t)) (path_state G W strip marks content L t) _ f))

    -- THE FIRST CODE BITS. A bit that misses another, added to it
    missed : (a b : Bool) → (one-if (not (beq a b)) + one-if a) % 2 ≡ one-if b
    unfolding one-if
    missed true true = refl
    missed true false = refl
    missed false true = refl
    missed false false = refl

    -- the misses and the bits that the first cells show make the first code bits
    path-first : (t : ℕ) → (path_miss G W strip marks content L t + first_bit (level strip) t) % 2
        ≡ parity_of (taps_of G.memory G.g1) (window_of (suc G.memory) u (suc t))
    unfolding path_miss miss_of first_bit one_bit_prices cell_at path_digit
    path-first t =
        let s : ℕ = path_state G W strip marks content L t in
        let d : Bool = planned G W strip marks content L t s in
        rw (
          path-newest G W strip marks content L t,
          mod-odd (level strip (2 * t)),
          word-by G.memory G K.both s d,
          word-odd G
              (2 * s + one-if d),
        )
        (missed (odd (level strip (2 * t))) (first_of G (2 * s + one-if d)) ∙ sym (parity-number _ (2 * s + one-if d)))

    -- a miss is 0 or 1
    miss-less : (t : ℕ) → path_miss G W strip marks content L t < 2
    unfolding path_miss miss_of
    miss-less t = one_less _

    -- the trail of the first k stages is the window of their misses
    trail-window : (k t : ℕ) → t + k ≤ 8 * L
        → trail_for G W k (stages_for G strip marks content t (8 * L - t)) (path_state G W strip marks content L t) ≡ window_of k
        (path_miss G W strip marks content L) (t + k)
    unfolding trail_of stages_from path_state path_miss
    trail-window zero t h = omega (arith, window-less 0 (path_miss G W strip marks content L) (t + 0))
    trail-window (suc k) t h =
        let z : 8 * L - t ≡ suc (8 * L - suc t) = omega arith in
        let m = path_miss G W strip marks content L in
        let e : t + suc k ≡ suc t + k = omega arith in
        let one : window_of 1 m (suc t) ≡ m t = window-suc m miss-less 0 t ∙ (let n = window-less 0 m t in omega (arith, n)) in
        rw (z, e)
        (ap (λ (v : ℕ). m t * 2 ^ k + v) (trail-window k (suc t) (omega arith))
        ∙ ap (λ (v : ℕ). v * 2 ^ k + window_of k m (suc t + k)) (sym one)
        ∙ sym (window-parts m miss-less 1 k (suc t)) ∙ ap (λ (n : ℕ). window_of n m (suc t + k)) (let n : 1 + k ≡ suc k = omega arith in n))

-- THE PATH IS FOLLOWED: the trail that the history keeps and the bits of the first cells give the first code bits of each block
path-followed : (G : Generators) (W : List ℕ) → Suits G W → Dear (steps_of W)
    → (strip : List ℕ) (marks : ℕ → Bool) (content : List ℕ) {lows history : List ℕ}
    → Traced G W strip marks content history → Lows strip (length content) lows → (a : Solution) → write_of G W strip marks content ≡ some a
    → Followed G lows history (length content) (path_digit G W strip marks content (length content))
path-followed G W K D strip marks content {lows} {history} T B a e = record {
  bits = digit-less G W strip marks content L;
  gives = λ q h. rw (told q h) (windows-give G.memory G.g1 u first (digit-less G W strip marks content L) first-less q K.reach
      (λ t l. refl));
}
  where
    L : ℕ
    L = length content

    u : ℕ → ℕ
    u = path_digit G W strip marks content L

    first : ℕ → ℕ
    first t = parity_of (taps_of G.memory G.g1) (window_of (suc G.memory) u (suc t))

    first-less : (t : ℕ) → first t < 2
    first-less t = parity-less (taps_of G.memory G.g1) (window_of (suc G.memory) u (suc t))

    kept : (q : ℕ) → q < L
        → get_or history (64 * q + window_of G.memory u (8 * q)) 0 ≡ window_of 8 (path_miss G W strip marks content L) (8 * (q + 1))
    kept q h =
        let s : ℕ = path_state G W strip marks content L (8 * q) in
        let z : 8 * (L - q) ≡ 8 * L - 8 * q = omega arith in
        let y : 8 * (q + 1) ≡ 8 * q + 8 = omega arith in
        let w : s ≡ window_of G.memory u (8 * q) = path-window G W strip marks content L (8 * q) in
        let l : s < 2 ^ G.memory = rw w (window-less G.memory u (8 * q)) in
        let k : get_or history (64 * q + s) 0 ≡ trail_for G W 8 (stages_for G strip marks content (8 * q) (8 * L - 8 * q)) s =
        rw z at (T.trails q h s l (rw z (path-open G W K strip marks content L D a e (8 * q) (omega arith)))) in
        rw (← w, y) (k ∙ trail-window G W K strip marks content L D 8 (8 * q) (omega arith))

    told : (q : ℕ) → q < L
        → bit_xor (get_or history (64 * q + window_of G.memory u (8 * q)) 0) (get_or lows q 0) ≡ window_of 8 first (8 * (q + 1))
    told q h =
        ap₂ bit_xor (kept q h) (B.shown q h)
        ∙ xor-windows 8 (path_miss G W strip marks content L) (first_bit (level strip)) (miss-less G W K strip marks content L D) (first-bound
        (level strip)) (8 * (q + 1))
        ∙ ap (λ (f : ℕ → ℕ). window_of 8 f (8 * (q + 1))) (fun_ext λ t. path-first G W K strip marks content L D t)

-- THE DIGITS. A window depends on the bits before its stage alone
window-agree : (k : ℕ) (u v : ℕ → ℕ) (n : ℕ) → ((t : ℕ) → t < n → u t ≡ v t) → (t : ℕ) → t ≤ n → window_of k u t ≡ window_of k v t
unfolding window_of
window-agree k u v n e zero h = refl
window-agree k u v n e (suc t) h = ap₂ (λ (w b : ℕ). (2 * w + b) % 2 ^ k) (window-agree k u v n e t (omega arith)) (e t h)

-- so what is carried out in the cells of n stages depends on the digits of these stages alone
carried_to-same : (G : Generators) (strip content : List ℕ) (u v : ℕ → ℕ) (n : ℕ) → ((t : ℕ) → t < n → u t ≡ v t)
    → (c : ℕ) → c < 2 * n → carried_to G strip content u c ≡ carried_to G strip content v c
unfolding carried_to wanted_of wanted_first wanted_second
carried_to-same G strip content u v n e c h =
    let k : suc (c / 2) ≤ n = omega arith in
    rw (window-agree (suc G.memory) u v n e (suc (c / 2)) k)

-- a digit of bytes that are the windows of a sequence
digit-window : (u : ℕ → ℕ) → ((t : ℕ) → u t < 2) → (n : ℕ) (digits : List ℕ) → ((q : ℕ) → q < n
    → get_or digits q 0 ≡ window_of 8 u (8 * (q + 1)))
    → (t : ℕ) → t < 8 * n → digit_in digits t ≡ u t
unfolding digit_in
digit-window u b n digits e t h =
    let q : ℕ = t / 8 in
    let l : q < n = omega arith in
    let p : 7 - t % 8 < 8 = omega arith in
    let z : 8 * q + (7 - (7 - t % 8)) ≡ t = omega arith in
    ap (λ (x : ℕ). x / 2 ^ (7 - t % 8) % 2) (e q l) ∙ window-byte u b q (7 - t % 8) p ∙ ap u z

-- THE PLAN: the bytes of the digits that are followed
pub followed-plans : {G : Generators} {W strip : List ℕ} {marks : ℕ → Bool} {content lows history digits : List ℕ}
    → Suits G W → Dear (steps_of W)
    → Traced G W strip marks content history → Lows strip (length content) lows
    → ((u : ℕ → ℕ) → Followed G lows history (length content) u → (q : ℕ) → q < length content
    → get_or digits q 0 ≡ window_of 8 u (8 * (q + 1)))
    → Plans G W strip marks content digits
followed-plans {G} {W} {strip} {marks} {content} {lows} {history} {digits} K D T B f = record {
  leads = λ a e c h.
      let l : c < 16 * length content = rw (one_bit-cells (length content)) at h in
      let v = path_digit G W strip marks content (length content) in
      carried_to-same G strip content (digit_in digits) v (8 * length content)
      (digit-window v (digit-less G W strip marks content (length content)) (length content) digits (f v
      (path-followed G W K D strip marks content T B a e))) c (omega arith)
      ∙ carried-is G W K strip marks content (length content) D a e c l;
}

-- THE PRICE of a word is at most two steps
price-below : (G : Generators) (W : List ℕ) → Suits G W → (strip : List ℕ) (marks : ℕ → Bool) (content : List ℕ) (t j : ℕ)
    → Below 510 ((quote_for W (stage_for G strip marks content t)).of j)
unfolding one_bit_prices cell_at
price-below G W K strip marks content t j =
    below-add (below-decoded (price-decoded W K.weights (level strip (2 * t)) (marks (2 * t)) _ (level-bound strip (2 * t))))
    (below-decoded (price-decoded W K.weights (level strip (2 * t + 1)) (marks (2 * t + 1)) _ (level-bound strip (2 * t + 1))))

-- THE COSTS of k stages are at most two steps a stage
costs-below : (G : Generators) (W : List ℕ) → Suits G W → (strip : List ℕ) (marks : ℕ → Bool) (content : List ℕ) (k t s : ℕ)
    → Below (k * 510) (costs_for G W (stages_for G strip marks content t k) s)
unfolding costs stages_from way branch_price
costs-below G W K strip marks content zero t s = at_most {c = 0} (omega arith)
costs-below G W K strip marks content (suc k) t s =
    let e : suc k * 510 ≡ 510 + k * 510 = omega arith in
    rw e (below-lesser
    (below-add (price-below G W K strip marks content t (branch_word (words_of G) s false))
    (costs-below G W K strip marks content k (suc t) _))
    (below-add (price-below G W K strip marks content t (branch_word (words_of G) s true))
    (costs-below G W K strip marks content k (suc t) _)))

-- WHAT A WRITE CANNOT DO: raise a cell by more than one
module _ (G : Generators) (W : List ℕ) (K : Suits G W) (D : Dear (steps_of W)) (L : ℕ) (strip : List ℕ) (marks : ℕ → Bool)
    (content : List ℕ) (a : Solution)
    (e : rewrite_of one_bit G W L strip marks content ≡ some a) where
  pub strip-near : (c : ℕ) → c < cell_count one_bit L → level_at a.levels c ≤ suc (level strip c)
  unfolding carried_to
  strip-near c h =
      let l : c < 16 * L = rw (one_bit-cells L) at h in
      omega (
        arith,
        carried-is G W K strip marks content L D a e c l,
        mod-lt (level strip c + wanted_of G content (path_digit G W strip marks content L) c) (zero-lt-suc 1),
      )

  -- or cost as much as closed, where the strip has at most 512 stages
  pub write-below : L ≤ 64 → a.cost < closed
  unfolding solution_cost
  write-below most =
      let b = costs-below G W K strip marks content (8 * L) 0 0 in
      let c : Below (8 * L * 510) (some a.cost) = rw (cost-start G W K D L strip marks content, e) at b in
      below-some c (omega arith)
