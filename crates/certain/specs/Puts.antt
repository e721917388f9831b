-- HOW MANY PUTS INTO A BLOCK ARE CERTAIN after its erase, whatever the data (document 02, K9).
--   certain_puts   four
--   block_puts     the block after the first n of puts in turn
--   CertainPuts    the first n puts after an erase are done
use Rattle.std.specs.Prelude.{◌≡◌, List, ℕ, zero, suc, ◌<◌, replicate}
use Rattle.std.proofs.Math.Option.{none}
use Rattle.refusals.specs.Refusals.{sizes_ground, pages_ground, block_size}
use Rattle.page_answers.specs.declared.Answer.TheVariants as A
use Rattle.block_promises.specs.Block.{put_answer, block_after}
use Rattle.certain.specs.Certain.{DataFor}

-- the first four puts after an erase are never spent
abbrev pub certain_puts : ℕ
certain_puts = 4

-- the block after the first n puts, each into the block that the one before it left and each with a code of its own
module _ (L S P : ℕ) (before : List ℕ) (codes : ℕ → ℕ) (datas : ℕ → List ℕ) where
  unfoldable pub block_puts : ℕ → List ℕ
  block_puts zero = before
  block_puts (suc n) = block_after (codes n) L S P (block_puts n) (datas n)

-- THE FIRST n PUTS AFTER AN ERASE ARE CERTAIN: into a block of any shape, all of whose bytes are 0 as an accepted erase leaves them, with
-- either code and whatever the datas, each of them is done
pub record CertainPuts (n : ℕ) : Type 0 where
  pub sure : (L S P : ℕ) → pages_ground P ≡ none → (codes : ℕ → ℕ) → ((i : ℕ) → i < n → sizes_ground (codes i) L S ≡ none)
      → (datas : ℕ → List ℕ) → ((i : ℕ) → i < n → DataFor L S (datas i)) → (i : ℕ) → i < n
      → (cost : ℕ) × (put_answer (codes i) L S P (block_puts L S P (replicate (block_size L S P) 0) codes datas i) (datas i) ≡ A.Done cost)
