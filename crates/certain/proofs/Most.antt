-- THREE IS THE MOST: for each code there are datas with which the first three writes are done and the fourth is spent, whatever is allowed
-- for its cost.
--   not-four     a run of four writes of which the last is spent: no fourth write with this code is certain
--   three-most   so it is with either code
use mathlib.Core.Path.{◌≡◌, refl, sym, ◌∙◌, ap}
use mathlib.Core.Bool.{Bool, true, false, ◌||◌, false≢true}
use mathlib.Core.List.{List, [], ◌∷◌}
use Prim.Native.Nat.{ℕ, zero, suc, ◌<◌, ◌≤◌}
use native.Mathlib.Omega.{arith}
use lib.Dec.{eqb, leb}
use borrow.Author.Tests.{eqb-true, leb-true, leb-false}
use Rattle.cells.specs.Places.{Each, and_each}
use Rattle.cells.specs.Climbs.{weight_of}
use Rattle.cells.proofs.Places.{each_first, each-rest}
use Rattle.cells.proofs.Bytes.{one-octet}
use Rattle.codes.specs.Layouts.{stage_count, cell_count, byte_count}
use Rattle.refusals.specs.Refusals.{is_code, sizes_ground, code_ground, limits_ground, bytes_ground, strips_ground, one_to_64}
use Rattle.refusals.specs.Refusals.{free_step, weights_ground}
use Rattle.page_promises.specs.Writes.{answer_of, page_of}
use Rattle.page_promises.proofs.Bounds.{three-weights}
use Rattle.page_answers.specs.Answers.{number_of}
use Rattle.page_known.specs.Known.{Case, done, spent, Says, on_strip, ones, erased}
use Rattle.page_known.proofs.Known.{runs-hold}
use Rattle.certain.specs.Certain.{Permitted, DataFor, written_page, certain_writes, Certain}
use Rattle.certain.proofs.Certain.{erased-low}

-- a data of a byte
data-byte : (byte : ℕ) → byte < 256 → DataFor 1 1 (byte ∷ [])
data-byte byte h = record { size = refl; octets = one-octet byte h }

-- the weights 1, 1, 1 are permitted, and so is a strip of a byte
ones-permitted : (code : ℕ) → is_code code ≡ true → Permitted ones code 1 1
unfolding sizes_ground code_ground limits_ground bytes_ground strips_ground one_to_64 weights_ground free_step weight_of
ones-permitted code e =
    record { sizes = rw e refl; not_free = refl; weights = three-weights 1 1 1 (omega arith) (omega arith) (omega arith) }

-- A RUN of four writes of a byte, of which the last is spent
abbrev four_rows : (code a b c d x y z j : ℕ) (p q r : List ℕ) → List Case
four_rows code a b c d x y z j p q r =
    on_strip ones code 1 erased (a ∷ []) (done x p)
    ∷ on_strip ones code 1 p (b ∷ []) (done y q)
    ∷ on_strip ones code 1 q (c ∷ []) (done z r)
    ∷ on_strip ones code 1 r (d ∷ []) (spent j)
    ∷ []

-- so no fourth write with its code is certain
module _ (code : ℕ) (e : is_code code ≡ true) {a b c d x y z j : ℕ} {p q r : List ℕ}
    (run : Each (Says answer_of page_of) (four_rows code a b c d x y z j p q r)) (a_byte : a < 256) (b-byte : b < 256) (c-byte : c < 256)
    (d-byte : d < 256) where
  -- its datas
  datas : ℕ → List ℕ
  datas zero = a ∷ []
  datas (suc zero) = b ∷ []
  datas (suc (suc zero)) = c ∷ []
  datas (suc (suc (suc n))) = d ∷ []

  datas-fit : (i : ℕ) → DataFor 1 1 (datas i)
  unfolding datas
  datas-fit zero = data-byte a a_byte
  datas-fit (suc zero) = data-byte b b-byte
  datas-fit (suc (suc zero)) = data-byte c c-byte
  datas-fit (suc (suc (suc n))) = data-byte d d-byte

  -- the number of the fourth answer is 7
  fourth-number : number_of (answer_of ones code 1 1 (written_page ones code 1 1 erased datas 3) (datas 3)) ≡ 7
  unfolding written_page datas
  fourth-number = go run
    where
      go : Each (Says answer_of page_of) (four_rows code a b c d x y z j p q r)
          → number_of (answer_of ones code 1 1 (written_page ones code 1 1 erased datas 3) (datas 3)) ≡ 7
      go (and_each s (and_each t (and_each u (and_each v w)))) = rw (s.1, t.1, u.1, v.0) refl

  not-four : {most : ℕ → ℕ → ℕ → List ℕ → ℕ} {n : ℕ} → Certain most code n → n ≤ certain_writes
  unfolding byte_count cell_count stage_count
  not-four {n = n} w = go (leb n certain_writes) refl
    where
      go : (t : Bool) → leb n certain_writes ≡ t → n ≤ certain_writes
      go true g = leb-true n certain_writes g
      go false g =
          let sure = w.sure ones 1 1 (ones-permitted code e) erased (erased-low 1 1 6 refl) datas (λ i l. datas-fit i) 3
          (omega (arith, leb-false n certain_writes g)) in
          absurd (omega (arith, sym fourth-number ∙ ap number_of sure.done))

-- THREE IS THE MOST with either code, whatever is allowed for a write's cost
pub three-most : (most : ℕ → ℕ → ℕ → List ℕ → ℕ) (code n : ℕ) → is_code code ≡ true → Certain most code n → n ≤ certain_writes
unfolding is_code
three-most most code n e w = go (eqb code 3) (eqb code 7) refl refl e
  where
    go : (s l : Bool) → eqb code 3 ≡ s → eqb code 7 ≡ l → (s || l) ≡ true → n ≤ certain_writes
    go true l f g h =
        not-four 3 refl (each_first runs-hold) (omega arith) (omega arith) (omega arith) (omega arith) (rw (eqb-true code 3 f) at w)
    go false true f g h =
        not-four 7 refl (each_first (each-rest runs-hold)) (omega arith) (omega arith) (omega arith) (omega arith)
        (rw (eqb-true code 7 g) at w)
    go false false f g h = absurd (false≢true h)
