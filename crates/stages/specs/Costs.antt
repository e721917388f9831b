-- Costs as a program holds them: a number for each optional cost. Closed is any number from `closed` on, never a cost, and no sum brings it
-- back among the costs.
--   Decodes   the number v decodes to an optional cost
--   Trailed   the same in `unit`ths, with the trail of k stages below the unit
use Rattle.std.specs.Prelude.{◌≡◌, ℕ, ◌+◌, ◌*◌, ◌^◌, ◌≤◌, ◌<◌}
use Rattle.std.proofs.Math.Option.{Option, none, some}

-- the number v decodes to the optional cost: a cost up to `most` is itself, and from `closed` on there is none
pub data Decodes (closed most : ℕ) : ℕ → Option ℕ → Type 0 where
  open_at : {c : ℕ} → c ≤ most → Decodes closed most c (some c)
  shut : {v : ℕ} → closed ≤ v → Decodes closed most v none

-- the number v in `unit`ths decodes to the optional cost and, where there is one, the trail t of k stages
pub data Trailed (unit closed most k : ℕ) : ℕ → Option ℕ → ℕ → Type 0 where
  open_with : {v c t : ℕ} → v ≡ unit * c + t → c ≤ most → t < 2 ^ k → Trailed unit closed most k v (some c) t
  shut_from : {v t : ℕ} → unit * closed ≤ v → Trailed unit closed most k v none t
