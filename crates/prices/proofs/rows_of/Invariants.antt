-- The invariants: the places of the rows before r hold their prices, and in a row those of the words before j.
use mathlib.Core.Path.{◌≡◌}
use Prim.Native.Nat.{ℕ, ◌+◌, ◌*◌, ◌<◌}
use lib.ListN.{length, get_or}
use Rattle.prices.specs.Prices.{row_price}
use Rattle.prices.proofs.rows_of.Given as goal

abbrev pub invariant-loop-r : goal.invariant-loop-r
invariant-loop-r l = (length l.rows ≡ 256) × ((k : ℕ) → k < 4 * l.r → get_or l.rows k 0 ≡ 256 * row_price l.steps k)

abbrev pub invariant-loop-j : goal.invariant-loop-j
invariant-loop-j l = (length l.rows ≡ 256) × ((k : ℕ) → k < 4 * l.r + l.j → get_or l.rows k 0 ≡ 256 * row_price l.steps k)
