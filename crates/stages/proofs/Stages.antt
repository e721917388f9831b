-- Laws of one stage on numbers, for any number of states.
--   half-after, staged-is   the states of a half, and one more of them done
--   stage-same              a stage depends on what its states read alone
--   stage-le                a stage adds one price at most
use mathlib.Core.Path.{◌≡◌}
use mathlib.Core.List.{List}
use Prim.Native.Nat.{ℕ, ◌+◌, ◌-◌, ◌*◌, ◌%◌, ◌<◌, ◌≤◌, min}
use native.Mathlib.Omega.{arith}
use native.Mathlib.Nat.{min-le_left, le_trans, add-le-add}
use lib.ListN.{get_or}
use Rattle.stages.specs.Stage.{stage_of, staged_at}

-- HALVES. The states after the state at + i of a half are 2·i and 2·i + 1
pub half-after : (at i : ℕ) → at % 32 ≡ 0 → at + 32 ≤ 64 → i < 32 → 2 * (at + i) % 64 ≡ 2 * i
half-after at i h l m = omega arith

-- a state's number, where i is the first state after it
pub staged-is : (after words prices : List ℕ) (s i : ℕ) {x y : ℕ} → 2 * s % 64 ≡ i
    → x ≡ get_or after i 0 + get_or prices (get_or words s 0) 0 → y ≡ get_or after (i + 1) 0 + get_or prices (3 - get_or words s 0) 0
    → min x y ≡ staged_at after words prices s
unfolding staged_at stage_of
staged-is after words prices s i e p q = rw (e, p, q)

-- STAGES. A state reads its word, the prices of two words, and two states after it
pub stage-same : (n : ℕ) (words prices after words' prices' after' : ℕ → ℕ) (s : ℕ) → words s ≡ words' s → words' s ≤ 3
    → ((j : ℕ) → j ≤ 3 → prices j ≡ prices' j) → after (2 * s % n) ≡ after' (2 * s % n) → after (2 * s % n + 1) ≡ after' (2 * s % n + 1)
    → stage_of n words prices after s ≡ stage_of n words' prices' after' s
unfolding stage_of
stage-same n words prices after words' prices' after' s e l p q r =
    rw (e, q, r, p (words' s) l, p (3 - words' s) (omega arith))

-- no number of a stage is more than the bound and a price
pub stage-le : (n bound cap : ℕ) (words prices after : ℕ → ℕ) → ((i : ℕ) → after i ≤ bound) → ((j : ℕ) → prices j ≤ cap)
    → (s : ℕ) → stage_of n words prices after s ≤ bound + cap
unfolding stage_of
stage-le n bound cap words prices after p q s = le_trans (min-le_left _ _) (add-le-add (p (2 * s % n)) (q (words s)))
