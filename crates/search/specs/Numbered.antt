-- The trellis with its states as numbers, the newest digit worth 1: what a program computes with.
--   wanted_n   the word that a window of the last digits wants
--   branch_n   a branch by the state's number
--   next_n     the next state's number
use Rattle.std.specs.Prelude.{Bool, true, List, [], ◌∷◌, ℕ, ◌+◌, ◌*◌, ◌%◌, ◌^◌}
use Rattle.std.proofs.Math.Option.{Option}
use Rattle.codes.specs.Sequences.{◌+₂◌, odd}
use Rattle.codes.specs.Encoders.{Encoder}
use Rattle.codes.specs.Taps.{parity_of}
use Rattle.codes.specs.Numbers.{one-if, value}
use Rattle.search.specs.Best.{Solution}
use Rattle.search.specs.Search.{Stage, Choice}

-- the code bits after the first by the window w of the last digits, and the labels xs
unfoldable pub sums_n : ℕ → List (List Bool) → List Bool → List Bool
sums_n w [] xs = []
sums_n w (G ∷ Gs) [] = []
sums_n w (G ∷ Gs) (x ∷ xs) = (odd (parity_of (value G) w) +₂ x) ∷ sums_n w Gs xs

-- the whole wanted word
unfoldable pub wanted_n : Encoder → ℕ → List Bool → List Bool
wanted_n E w xs = odd (parity_of (value (true ∷ E.first)) w) ∷ sums_n w E.others xs

-- a branch of the state s with the digit u
unfoldable pub branch_n : Encoder → Choice → Stage → ℕ → Bool → Option Solution
branch_n E choose g s u = choose g.cells (wanted_n E (2 * s + one-if u) g.adds)

-- '(2·s + d mod 2) mod 2^m'
unfoldable pub next_n : Encoder → Stage → ℕ → Bool → ℕ
next_n E g s u = (2 * s + one-if u) % 2 ^ E.memory
