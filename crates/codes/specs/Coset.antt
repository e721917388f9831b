-- Code words that read as the data, and the words that input digits write.
--   column j W          bit j of each word of a list of words
--   Reads E d n W       n words read as the data d
--   code_word E d u t   the word of stage t that the digits u write for the data d
--   rest                the bits of that word after the first
--   Written E d u n W   n words are those that the digits u write
--   BitsEach k n W      each of n words has k bits
use Rattle.std.specs.Prelude.{◌≡◌, Bool, true, false, List, [], ◌∷◌, ℕ, suc, ◌<◌, get_or, length}
use Rattle.codes.specs.Sequences.{◌+₂◌, Bits, ◌⊕◌, conv, Agree}
use Rattle.codes.specs.Registers.{quotient}
use Rattle.codes.specs.Encoders.{Encoder}

-- bit j of each word
unfoldable pub column : ℕ → List (List Bool) → Bits
column j W t = get_or (get_or W t []) j false

-- n words read as the data: for each generator G_j after the first, G_j times the first column plus G_1 times the j-th column is d_j. With
-- one generator after the first this is the paper's sum.
pub record Reads (E : Encoder) (d : ℕ → Bits) (n : ℕ) (W : List (List Bool)) : Type 0 where
  pub each : (j : ℕ) → j < length E.others
      → Agree n (conv (get_or E.others j []) (column 0 W) ⊕ conv (true ∷ E.first) (column (suc j) W)) (d j)

-- the bits after the first that the digits u write at stage t: G_j's output, with the data divided by G_1 added
module _ (m : ℕ) (gs : List Bool) (u : Bits) (t : ℕ) where
  unfoldable pub rest : List (List Bool) → (ℕ → Bits) → List Bool
  rest [] d = []
  rest (G ∷ Gs) d = (conv G u t +₂ quotient m gs (d 0) t) ∷ rest Gs (λ j. d (suc j))

-- the word that the digits u write at stage t
unfoldable pub code_word : Encoder → (ℕ → Bits) → Bits → ℕ → List Bool
code_word E d u t = conv (true ∷ E.first) u t ∷ rest E.memory E.first u t E.others d

-- n words are those that the digits u write
pub record Written (E : Encoder) (d : ℕ → Bits) (u : Bits) (n : ℕ) (W : List (List Bool)) : Type 0 where
  pub at : (t : ℕ) → t < n → get_or W t [] ≡ code_word E d u t

-- each of n words has k bits
pub record BitsEach (k n : ℕ) (W : List (List Bool)) : Type 0 where
  pub size : (i : ℕ) → i < n → length (get_or W i []) ≡ k
