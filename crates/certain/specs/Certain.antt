-- HOW MANY WRITES ARE CERTAIN after an erase, whatever the data, with one bit a cell (document 02, K8).
--   Permitted W code L S   'any permitted code and size', and weights
--   DataFor L S content    data of L·S bytes
--   Low L S k page         a page every cell of which is below level k
--   dearest k W            'the greatest of the first k weights'
--   certain_most L S k W   8·L·S times that
--   Sure most r            an answer that is done, and costs at most so much
--   written_page           the page after the first n of writes in turn
--   certain_writes         three
--   Certain most code n    the first n writes after an erase are done, each within its bound
use Rattle.std.specs.Prelude.{◌≡◌, List, ℕ, zero, suc, ◌<◌, ◌≤◌, ◌*◌, max, length}
use Rattle.std.proofs.Math.Option.{none}
use Rattle.cells.specs.Bytes.{Octets}
use Rattle.cells.specs.Levels.{level}
use Rattle.cells.specs.Climbs.{weight_of, Weights}
use Rattle.codes.specs.Layouts.{one_bit, cell_count, byte_count}
use Rattle.refusals.specs.Refusals.{sizes_ground, weights_ground}
use Rattle.page_promises.specs.Writes.{answer_of, page_of}
use Rattle.page_answers.specs.declared.Answer.{Answer}
use Rattle.page_answers.specs.declared.Answer.TheVariants as A

-- 'any permitted code and size', and three weights of a byte none of which is 0
pub record Permitted (W : List ℕ) (code L S : ℕ) : Type 0 where
  pub sizes : sizes_ground code L S ≡ none
  pub not_free : weights_ground W ≡ none
  pub weights : Weights W

-- data of L·S bytes
pub record DataFor (L S : ℕ) (content : List ℕ) : Type 0 where
  pub size : length content ≡ L * S
  pub octets : Octets content

-- a page of the right length every cell of which is below level k
pub record Low (L S k : ℕ) (page : List ℕ) : Type 0 where
  pub size : length page ≡ byte_count one_bit L * S
  pub below : (c : ℕ) → c < cell_count one_bit L * S → level page c < k

-- 'the greatest of the first k weights'
unfoldable pub dearest : ℕ → List ℕ → ℕ
dearest zero W = 0
dearest (suc k) W = max (dearest k W) (weight_of W k)

-- 'The k-th of them costs at most 8·L·S times the greatest of the first k weights'
abbrev pub certain_most : ℕ → ℕ → ℕ → List ℕ → ℕ
certain_most L S k W = 8 * L * S * dearest k W

-- done, so not spent, at a cost of at most so much
pub record Sure (most : ℕ) (r : Answer) : Type 0 where
  pub cost : ℕ
  pub done : r ≡ A.Done cost
  pub bound : cost ≤ most

-- the page after the first n writes, each on the page that the one before it left
module _ (W : List ℕ) (code L S : ℕ) (before : List ℕ) (datas : ℕ → List ℕ) where
  unfoldable pub written_page : ℕ → List ℕ
  written_page zero = before
  written_page (suc n) = page_of W code L S (written_page n) (datas n)

-- 'the first three writes after an erase are never spent'
abbrev pub certain_writes : ℕ
certain_writes = 3

-- THE FIRST n WRITES AFTER AN ERASE ARE CERTAIN with this code: with any weights and size, from any page whose cells are at level 0 and
-- whatever the datas, each of them is done, and the k-th costs at most `most L S k W`
pub record Certain (most : ℕ → ℕ → ℕ → List ℕ → ℕ) (code n : ℕ) : Type 0 where
  pub sure : (W : List ℕ) (L S : ℕ) → Permitted W code L S → (erased : List ℕ) → Low L S 1 erased → (datas : ℕ → List ℕ)
      → ((i : ℕ) → i < n → DataFor L S (datas i)) → (i : ℕ) → i < n
      → Sure (most L S (suc i) W) (answer_of W code L S (written_page W code L S erased datas i) (datas i))
