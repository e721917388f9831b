-- Laws of the coset of the data: the words that digits write read as the data, and words that read as the data are written by some digits.
--   column-reads-below    one column: what digits give reads as the data
--   column-arises-below   and what reads as the data is given by the quotient of the first column
--   rest_at               the bits of a word after the first
--   written-reads         the words that digits write read as the data
--   reads-written         words that read as the data are those of the digits that the first column, divided by G_1, is
--   coset                 both, for the reader: the words that read as the data are the coset that the digits run through
use mathlib.Core.Path.{◌≡◌, refl, sym, ◌∙◌, ap}
use mathlib.Core.Bool.{Bool, true, false}
use mathlib.Core.List.{List, [], ◌∷◌}
use mathlib.Core.Logic.{◌↔◌}
use Prim.Native.Nat.{ℕ, zero, suc, ◌<◌, ◌≤◌}
use native.Mathlib.Omega.{arith}
use native.Mathlib.Nat.{not-suc-le-zero}
use lib.ListN.{length, get_or}
use lib.Seq.{ext_get_or}
use Rattle.codes.specs.Sequences.{◌+₂◌, Bits, ◌⊕◌, conv, Agree}
use Rattle.codes.specs.Registers.{quotient}
use Rattle.codes.specs.Encoders.{Encoder, InMemory}
use Rattle.codes.specs.Coset.{column, Reads, rest, code_word, Written, BitsEach}
use Rattle.codes.proofs.Sequences.{conv-⊕, conv-comm, ⊕-twice, agree_refl, agree-⊕, agree-conv}
use Rattle.codes.proofs.Registers.{conv-quotient, quotient-below}

module _ (m : ℕ) (gs : List Bool) (l : length gs ≤ m) where
  -- what the digits u give reads as d
  column-reads : (g : List Bool) (u d : Bits) → conv g (conv (true ∷ gs) u) ⊕ conv (true ∷ gs) (conv g u ⊕ quotient m gs d) ≡ d
  column-reads g u d = rw (conv-⊕ (true ∷ gs), conv-quotient m gs l d, conv-comm (true ∷ gs) g u) (⊕-twice _ d)

  -- also below stage n
  column-reads-below : (n : ℕ) (g : List Bool) (u a b d : Bits) → Agree n a (conv (true ∷ gs) u)
      → Agree n b (conv g u ⊕ quotient m gs d) → Agree n (conv g a ⊕ conv (true ∷ gs) b) d
  column-reads-below n g u a b d e f = rw (column-reads g u d) at (agree-⊕ (agree-conv g e) (agree-conv (true ∷ gs) f))

  -- the other way: what reads as d is the column of the digits that a, divided by the first generator, is
  column-arises-below : (n : ℕ) (g : List Bool) (a b d : Bits) → Agree n (conv g a ⊕ conv (true ∷ gs) b) d
      → Agree n b (conv g (quotient m gs a) ⊕ quotient m gs d)
  column-arises-below n g a b d e =
      let u : Bits = quotient m gs a in
      let same : conv (true ∷ gs) (conv g u ⊕ b) ≡ conv g a ⊕ conv (true ∷ gs) b =
      rw (conv-⊕ (true ∷ gs) (conv g u) b, conv-comm (true ∷ gs) g u, conv-quotient m gs l a) in
      let q : Agree n (conv g u ⊕ b) (quotient m gs d) = quotient-below m gs l n (conv g u ⊕ b) d (rw same e) in
      rw (⊕-twice (conv g u) b) at (agree-⊕ (agree_refl n (conv g u)) q)

-- the bits after the first that digits write
module _ (m : ℕ) (gs : List Bool) (u : Bits) (t : ℕ) where
  -- as many as the generators
  length_rest : (Gs : List (List Bool)) (d : ℕ → Bits) → length (rest m gs u t Gs d) ≡ length Gs
  unfolding rest
  length_rest [] d = refl
  length_rest (G ∷ Gs) d = ap suc (length_rest Gs (λ j. d (suc j)))

  -- bit j is generator j's, with label j
  rest_at : (Gs : List (List Bool)) (d : ℕ → Bits) (j : ℕ) → j < length Gs
      → get_or (rest m gs u t Gs d) j false ≡ conv (get_or Gs j []) u t +₂ quotient m gs (d j) t
  unfolding rest
  rest_at [] d j h = absurd (not-suc-le-zero h)
  rest_at (G ∷ Gs) d zero h = refl
  rest_at (G ∷ Gs) d (suc j) h = rest_at Gs (λ i. d (suc i)) j (omega arith)

-- THE COSET: words of the right size read as the data where they are those of some digits, and only there
module _ (E : Encoder) (H : InMemory E) (d : ℕ → Bits) (n : ℕ) (W : List (List Bool)) where
  -- the words of digits read as the data
  pub written-reads : (u : Bits) → Written E d u n W → Reads E d n W
  unfolding column code_word ◌⊕◌
  written-reads u s = record { each = λ j h. column-reads-below E.memory E.first H.first_fits n _ u _ _ _ first (other j h) }
    where
      first : Agree n (column 0 W) (conv (true ∷ E.first) u)
      first = record { at = λ t h. ap (λ (w : List Bool). get_or w 0 false) (s.at t h) }

      other : (j : ℕ) → j < length E.others
          → Agree n (column (suc j) W) (conv (get_or E.others j []) u ⊕ quotient E.memory E.first (d j))
      other j h = record {
        at = λ t i. ap (λ (w : List Bool). get_or w (suc j) false) (s.at t i) ∙ rest_at E.memory E.first u t E.others d j h;
      }

  -- words that read as the data are those of the digits that the first column, divided by G_1, is
  pub reads-written : BitsEach (suc (length E.others)) n W → Reads E d n W
      → Written E d (quotient E.memory E.first (column 0 W)) n W
  unfolding code_word column ◌⊕◌
  reads-written z r = record {
    at = λ t h.
        let k = z.size t h ∙ ap suc (sym (length_rest E.memory E.first u t E.others d)) in
        ext_get_or false (get_or W t []) (code_word E d u t) k (λ j i. at t h j (omega (arith, z.size t h)));
  }
    where
      u : Bits
      u = quotient E.memory E.first (column 0 W)

      at : (t : ℕ) → t < n → (j : ℕ) → j < suc (length E.others) → get_or (get_or W t []) j false ≡ get_or (code_word E d u t) j false
      at t h zero i = sym (ap (λ (x : Bits). x t) (conv-quotient E.memory E.first H.first_fits (column 0 W)))
      at t h (suc j) i =
          (column-arises-below E.memory E.first H.first_fits n _ (column 0 W) (column (suc j) W) _ (r.each j (omega arith))).at t h
          ∙ sym (rest_at E.memory E.first u t E.others d j (omega arith))

  -- both; for the reader
  pub coset : BitsEach (suc (length E.others)) n W → Reads E d n W ↔ ((u : Bits) × Written E d u n W)
  coset z = (λ r. (quotient E.memory E.first (column 0 W), reads-written z r), λ p. written-reads p.0 p.1)
