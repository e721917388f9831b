-- AS C SEES IT: the number of the answer is 0, and its value is within the bound.
--   certain-fits   no bound reaches the number's part of the answer
--   sure-word      one write
--   list-word      a list
use mathlib.Core.Path.{◌≡◌, refl, ◌∙◌, ap}
use mathlib.Core.List.{List}
use mathlib.Core.Option.{Option}
use Prim.Native.Nat.{ℕ, zero, suc, ◌<◌, ◌≤◌, ◌+◌, ◌*◌, ◌/◌, ◌%◌, ◌^◌}
use native.Mathlib.Omega.{arith}
use native.Mathlib.Nat.{mul-le-mul}
use lib.ListN.{length}
use Rattle.cells.specs.Places.{sum_of}
use Rattle.cells.specs.Bytes.{Octets}
use Rattle.cells.specs.Climbs.{weight_of, Weights}
use Rattle.cells.specs.Raising.{start_of}
use Rattle.refusals.proofs.Refusals.{sizes-limits, limits-size}
use Rattle.page_promises.specs.Lists.{list_answer}
use Rattle.page_promises.proofs.Lists.{list-bounds}
use Rattle.page_answers.specs.Answers.{end_number}
use Rattle.page_answers.specs.declared.Answer.{Answer}
use Rattle.words.specs.Words.{answer_word, list_word}
use Rattle.words.proofs.Words.{list-fields}
use Rattle.page_ledger.specs.Marks.{NoneMarked}
use Rattle.certain.specs.Certain.{Permitted, Low, dearest, certain_most, Sure, certain_writes}
use Rattle.certain.proofs.Lists.{list-certain}

-- the greatest of weights of a byte is one
dearest-byte : {W : List ℕ} → Weights W → (k : ℕ) → dearest k W ≤ 255
unfolding dearest weight_of
dearest-byte K zero = omega arith
dearest-byte K (suc k) = omega (arith, dearest-byte K k, K.bytes k)

-- a bound is far below 2 ^ 32
certain-fits : {W : List ℕ} {code L S : ℕ} → Permitted W code L S → (k : ℕ) → certain_most L S k W ≤ 8355840
certain-fits {W} {code} {L} {S} P k =
    mul-le-mul {n₁ = 8 * L * S} {m₁ = dearest k W} {n₂ = 32768} {m₂ = 255}
    (omega (arith, limits-size L S (sizes-limits code L S P.sizes))) (dearest-byte P.weights k)

-- ONE WRITE, or a price
pub sure-word : {W : List ℕ} {code L S : ℕ} → Permitted W code L S → (k : ℕ) {a : Answer} → Sure (certain_most L S k W) a
    → (answer_word a / 2 ^ 32 ≡ 0) × (answer_word a % 2 ^ 32 ≤ certain_most L S k W)
unfolding answer_word
sure-word P k s =
    let f = certain-fits P k in
    rw s.done (omega (arith, s.bound), omega (arith, s.bound))

-- A LIST
pub list-word : {map : Option (List ℕ)} {W : List ℕ} {code L S k : ℕ} (count : ℕ) {page content : List ℕ} → Permitted W code L S
    → NoneMarked L S map → Low L S k page → 0 < count → count + k ≤ suc certain_writes → length content ≡ count * (L * S)
    → Octets content
    → let r = list_word (list_answer map W code L S count page content) in
    (r / 2 ^ 32 % 2 ^ 8 ≡ 0) × (r / 2 ^ 40 % 2 ^ 8 ≡ count) × (r % 2 ^ 32 ≤ sum_of count (λ i. certain_most L S (k + i) W))
list-word {map} {W} {code} {L} {S} count {page} {content} P N low p last size b =
    let a = list_answer map W code L S count page content in
    let l = list-certain start_of count P N low p last size b in
    let f = list-fields a (list-bounds map W code L S count page content P.weights b) refl in (
      f.number_field ∙ ap end_number l.1,
      f.written_field ∙ l.0,
      omega (arith, f.cost_field, l.2),
    )
