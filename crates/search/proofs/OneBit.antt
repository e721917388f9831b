-- THE TWO FACTS about one bit a cell: the prices of a stage are the least costs of its words, and the bit that the first cell shows decides
-- ties.
--   Pair             a stage of two cells and one label
--   one_bit-wants    the word that a window wants at such a stage
--   one_bit-held     the levels of an open branch
--   one_bit-quotes   the two facts
use mathlib.Core.Path.{◌≡◌, refl, sym, ◌∙◌, ap}
use mathlib.Core.Bool.{Bool, true, false, beq}
use mathlib.Core.List.{[], ◌∷◌}
use mathlib.Core.Option.{Option, none, some, some-injective}
use Prim.Native.Nat.{ℕ, ◌+◌, ◌*◌}
use native.Mathlib.Omega.{arith}
use Rattle.codes.specs.Generators.{Generators, g2, digit}
use Rattle.codes.specs.Taps.{word_of}
use Rattle.codes.specs.Sequences.{◌+₂◌, odd}
use Rattle.codes.specs.Numbers.{one-if}
use Rattle.codes.specs.Encoders.{encoder_of}
use Rattle.codes.specs.Codes.{generators_of}
use Rattle.codes.specs.declared.Code.{Code}
use Rattle.codes.proofs.Codes.{proper, second-leads, two-generators}
use Rattle.codes.proofs.Numbers.{taps-value}
use Rattle.codes.proofs.Encoders.{first-digits}
use Rattle.search.specs.Best.{Solution}
use Rattle.search.specs.Trellis.{joined, free}
use Rattle.search.specs.Strip.{Steps, Cell}
use Rattle.search.specs.Levels.{cell_at}
use Rattle.search.specs.Search.{Stage, with_memory}
use Rattle.search.specs.Parity.{keep-or-raise, parity-choice}
use Rattle.search.specs.Plan.{solution_cost, add, Decides}
use Rattle.search.specs.Numbered.{sums_n, wanted_n, branch_n}
use Rattle.search.specs.Plain.{branch_word, branch_price, branch_tie, Quotes}
use Rattle.search.specs.OneBit.{bit_price, one_bit_prices}
use Rattle.search.proofs.Plan.{cost-joined}
use Rattle.search.proofs.Best.{joined-both}
use Rattle.search.proofs.Parity.{held, keep-held, held-lower}
use Rattle.search.proofs.Windows.{first_of, second_of, parity-flip, word-odd, word-half, word-flip}

-- a stage of two cells and one label
pub data Pair : Stage → Type 0 where
  pair : {x y : Cell} {a : Bool} → Pair (record { adds = a ∷ []; cells = x ∷ y ∷ [] })

-- two generators that both begin with 1
pub record Both (G : Generators) : Type 0 where
  pub g1-leads : digit G.memory G.g1 0 ≡ 1
  pub g2-leads : digit G.memory (g2 G) 0 ≡ 1
  pub two : G.others ≡ g2 G ∷ []

-- which every code has
pub code-both : (c : Code) → Both (generators_of c)
code-both c = record { g1-leads = (proper c).leads; g2-leads = second-leads c; two = two-generators c }

-- nothing more to pay
free-after : (r : Option Solution) → add (solution_cost r) (solution_cost (some free)) ≡ solution_cost r
unfolding add solution_cost
free-after none = refl
free-after (some b) = ap some (omega arith)

module _ (m : ℕ) (G : Generators) (K : Both G) where
  -- the word that a window wants at a stage with the label x
  one_bit-wants : (w : ℕ) (x : Bool) → wanted_n (with_memory m (encoder_of G)) w (x ∷ []) ≡ first_of G w ∷ (second_of G w +₂ x) ∷ []
  unfolding wanted_n sums_n encoder_of
  one_bit-wants w x = rw (K.two, first-digits G K.g1-leads, ← taps-value G.memory G.g1, ← taps-value G.memory (g2 G))

  -- the word of a state and a digit
  pub word-by : (s : ℕ) (u : Bool) → branch_word (λ s. word_of G (2 * s)) s u ≡ word_of G (2 * s + one-if u)
  unfolding branch_word one-if
  word-by s true = word-flip G s K.g1-leads K.g2-leads
  word-by s false = ap (word_of G) (omega arith)

  module _ (S : Steps) where
    -- a branch by the choices of its two cells
    branch-cells : (x y : Cell) (a : Bool) (s : ℕ) (u : Bool)
        → branch_n (with_memory m (encoder_of G)) (parity-choice S) (record { adds = a ∷ []; cells = x ∷ y ∷ [] }) s u
        ≡ joined (keep-or-raise S x (first_of G (2 * s + one-if u)))
        (joined (keep-or-raise S y (second_of G (2 * s + one-if u) +₂ a)) (some free))
    unfolding branch_n parity-choice
    branch-cells x y a s u = rw (one_bit-wants (2 * s + one-if u) a)

    -- an open branch holds the levels of its two bits
    pub one_bit-held : (x y : Cell) (a : Bool) (s : ℕ) (u : Bool) (r : Solution)
        → branch_n (with_memory m (encoder_of G)) (parity-choice S) (record { adds = a ∷ []; cells = x ∷ y ∷ [] }) s u ≡ some r
        → r.levels ≡ held x (first_of G (2 * s + one-if u)) ∷ held y (second_of G (2 * s + one-if u) +₂ a) ∷ []
    one_bit-held x y a s u r e =
        let p = joined-both _ _ r (sym (branch-cells x y a s u) ∙ e) in
        let q = joined-both _ _ p.second p.right in
        rw (
          p.append,
          q.append,
          keep-held S _ _ p.first p.left,
          keep-held S _ _ q.first
              q.left,
          ← some-injective _ _ q.right,
        )

    -- the price of a branch, by the bits that it wants
    pub one_bit-price : (x y : Cell) (a : Bool) (s : ℕ) (u : Bool)
        → branch_price (λ s. word_of G (2 * s)) (one_bit_prices S (record { adds = a ∷ []; cells = x ∷ y ∷ [] })) s u
        ≡ add (bit_price S x (first_of G (2 * s + one-if u))) (bit_price S y (second_of G (2 * s + one-if u) +₂ a))
    unfolding branch_price one_bit_prices cell_at
    one_bit-price x y a s u = rw (word-by s u, word-odd G (2 * s + one-if u), word-half G (2 * s + one-if u))

    -- the digit 1 wins a tie where its first bit is the one that the first cell shows
    pub one_bit-tie : (x y : Cell) (a : Bool) (s : ℕ)
        → branch_tie (λ s. word_of G (2 * s)) (one_bit_prices S (record { adds = a ∷ []; cells = x ∷ y ∷ [] })) s
        ≡ beq (odd x.level) (first_of G (2 * s + 1))
    unfolding branch_tie one_bit_prices cell_at one-if
    one_bit-tie x y a s = rw (word-by s true, word-odd G (2 * s + 1))

    -- THE PRICES are the costs of the branches
    priced : (g : Stage) → Pair g → (s : ℕ) (u : Bool)
        → branch_price (λ s. word_of G (2 * s)) (one_bit_prices S g) s u
        ≡ solution_cost (branch_n (with_memory m (encoder_of G)) (parity-choice S) g s u)
    unfolding bit_price
    priced g (pair {x = x} {y = y} {a = a}) s u =
        one_bit-price x y a s u
        ∙ sym (ap solution_cost (branch-cells x y a s u) ∙ cost-joined _ _ ∙ ap (add _) (cost-joined _ _ ∙ free-after (keep-or-raise S y _)))

    -- THE TIES are decided by the bit that the first cell shows
    tied : (g : Stage) → Pair g → (s : ℕ) (r q : Solution) → branch_n (with_memory m (encoder_of G)) (parity-choice S) g s false ≡ some r
        → branch_n (with_memory m (encoder_of G)) (parity-choice S) g s true ≡ some q
        → Decides (branch_tie (λ s. word_of G (2 * s)) (one_bit_prices S g) s) r.levels q.levels
    unfolding one-if
    tied g (pair {x = x} {y = y} {a = a}) s r q e f =
        rw (
          one_bit-tie x y a s,
          one_bit-held x y a s false r e,
          one_bit-held x y a s true q f,
          parity-flip G.memory G.g1 s
              K.g1-leads,
        )
        (held-lower x (first_of G (2 * s + 0)))

    -- the two facts
    pub one_bit-quotes : Quotes (with_memory m (encoder_of G)) (parity-choice S) (λ s. word_of G (2 * s)) (one_bit_prices S) Pair
    one_bit-quotes = record { priced = priced; tied = tied }
