-- Laws of the encoder of the paper's numbers: words read as the data in its algebra just where the paper's sums give the data.
--   first-digits        G1's digits, where the first is 1
--   encoder-in-memory   no generator reaches back more than the memory
--   reads-sums          words read as the data just where the paper's sums give it
use mathlib.Core.Path.{◌≡◌, refl, sym, ◌∙◌, ap}
use mathlib.Core.Bool.{Bool, true}
use mathlib.Core.List.{List, [], ◌∷◌, map}
use mathlib.Core.Logic.{◌↔◌}
use Prim.Native.Nat.{ℕ, zero, suc, ◌<◌, ◌≤◌, ◌+◌, ◌*◌, ◌/◌, ◌%◌}
use native.Mathlib.Nat.{not-suc-le-zero, div-add-mod}
use native.Mathlib.Omega.{arith}
use lib.ListN.{length, get_or, length-map}
use Rattle.cells.specs.Places.{list_of, Each, no_more, and_each}
use Rattle.cells.proofs.Places.{length-list_of}
use Rattle.cells.proofs.Parts.{place-div, place-mod, place_inside, part-number, part-place}
use Rattle.codes.specs.Generators.{Generators, digit}
use Rattle.codes.specs.Layouts.{Layout}
use Rattle.codes.specs.Reading.{sum_bit, code_bit, data_bit}
use Rattle.codes.specs.Sequences.{◌⊕◌, conv, Agree, odd}
use Rattle.codes.specs.Encoders.{InMemory, digit_bits, encoder_of}
use Rattle.codes.specs.Coset.{column, Reads}
use Rattle.codes.proofs.Sequences.{odd-only, agree_trans, agree-⊕, agree-conv}
use Rattle.codes.proofs.Reading.{sum_bit-conv}
use Rattle.codes.proofs.Layouts.{data_bit-bound}

-- the digits of G1, digit 0 being 1
pub first-digits : (G : Generators) → digit G.memory G.g1 0 ≡ 1 → true ∷ (encoder_of G).first ≡ digit_bits G.memory G.g1
unfolding encoder_of list_of odd
first-digits G e = ap (λ (x : ℕ). odd x ∷ (encoder_of G).first) (sym e)

-- no generator reaches back more than the memory
pub encoder-in-memory : (G : Generators) → InMemory (encoder_of G)
unfolding encoder_of
encoder-in-memory G = record {
  first_fits = omega (arith, length-list_of G.memory (λ i. odd (digit G.memory G.g1 (suc i))));
  others_fit = each G.others;
}
  where
    each : (gs : List ℕ) → Each (λ G'. length G' ≤ suc G.memory) (map (λ g. digit_bits G.memory g) gs)
    each [] = no_more
    each (g ∷ gs) =
        let e : length (digit_bits G.memory g) ≤ suc G.memory = rw length-list_of (omega arith) in
        and_each e (each gs)

-- generator j after the first, by its digits
others-at : (m : ℕ) (gs : List ℕ) (j : ℕ) → j < length gs → get_or (map (λ g. digit_bits m g) gs) j [] ≡ digit_bits m (get_or gs j 0)
others-at m [] j h = absurd (not-suc-le-zero h)
others-at m (g ∷ gs) zero h = refl
others-at m (g ∷ gs) (suc j) h = others-at m gs j (omega arith)

-- WORDS READ AS THE DATA just where the paper's sums give it: v are the levels of the cells, whose code bits are those of the words
module _ (lay : Layout) (G : Generators) (lead : digit G.memory G.g1 0 ≡ 1) (whole : length G.others ≡ lay.bits)
    (n : ℕ) (W : List (List Bool)) (v d : ℕ → ℕ) (bits : (b : ℕ) → d b < 2)
    (shown : (j : ℕ) → j ≤ lay.bits → Agree n (column j W) (λ t. odd (code_bit lay v j t))) where
  -- data bit bits·t + j is the sum of stage t by generator j after the first
  data-stage : (j t : ℕ) → j < lay.bits
      → data_bit lay G v (lay.bits * t + j) ≡ sum_bit G.memory G.g1 (get_or G.others j 0) (code_bit lay v 0) (code_bit lay v (suc j)) t
  unfolding data_bit
  data-stage j t h = rw (place-mod lay.bits t j h, place-div lay.bits t j h)

  -- column j reads as the data bits of that generator
  sums-agree : (j : ℕ) → j < lay.bits
      → Agree n (conv (get_or (encoder_of G).others j []) (column 0 W) ⊕ conv (true ∷ (encoder_of G).first) (column (suc j) W))
      (λ t. odd (data_bit lay G v (lay.bits * t + j)))
  unfolding encoder_of
  sums-agree j h =
      rw (first-digits G lead, others-at G.memory G.others j (omega arith))
      (agree_trans (agree-⊕ (agree-conv _ (shown 0 (omega arith))) (agree-conv _ (shown (suc j) h)))
      (record { at = λ t l. sym (ap odd (data-stage j t h) ∙ sum_bit-conv _ _ _ _ _ t) }))

  -- a generator for each data bit of a stage
  others-many : length (encoder_of G).others ≡ lay.bits
  unfolding encoder_of
  others-many = length-map G.others (λ g. digit_bits G.memory g) ∙ whole

  -- both ways
  pub reads-sums : Reads (encoder_of G) (λ j t. odd (d (lay.bits * t + j))) n W ↔ ((b : ℕ) → b < lay.bits * n → data_bit lay G v b ≡ d b)
  reads-sums = (to, λ f. record { each = λ j h. from f j (rw others-many at h) })
    where
      from : ((b : ℕ) → b < lay.bits * n → data_bit lay G v b ≡ d b) → (j : ℕ) → j < lay.bits
          → Agree n (conv (get_or (encoder_of G).others j []) (column 0 W) ⊕ conv (true ∷ (encoder_of G).first) (column (suc j) W))
          (λ t. odd (d (lay.bits * t + j)))
      from f j h = agree_trans (sums-agree j h) (record { at = λ t l. ap odd (f _ (place_inside lay.bits t j h n l)) })

      to : Reads (encoder_of G) (λ j t. odd (d (lay.bits * t + j))) n W → (b : ℕ) → b < lay.bits * n → data_bit lay G v b ≡ d b
      to r b h =
          let j : ℕ = b % lay.bits in
          let t : ℕ = b / lay.bits in
          let k : j < lay.bits = part-place lay.bits n b h in
          let l : t < n = part-number lay.bits n b h in
          let z : lay.bits * t + j ≡ b = div-add-mod b lay.bits in
          let s = sym ((sums-agree j k).at t l) ∙ (r.each j (rw others-many k)).at t l in
          rw z at (odd-only _ _ (data_bit-bound lay G v _) (bits _) s)
