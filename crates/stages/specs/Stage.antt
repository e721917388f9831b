-- One stage of the search, from the back, on numbers: what each state costs to the end, from what the states after it cost.
--   closed                                from this number on there is no cost: more than any write of a strip costs
--   top                                   the same in 256ths
--   pick d x y                            x for the digit 0, else y
--   stage_of                              what each state costs a stage earlier
--   words_of G                            the word that each state wants for the digit 0
--   StageRequires, HalfRequires, Staged   what a stage of 64 states asks and gives
use Rattle.std.specs.Prelude.{ℕ, zero, suc, ◌+◌, ◌-◌, ◌*◌, ◌%◌, ◌≤◌, ◌<◌, min, List, ◌≡◌, length, get_or}
use Rattle.codes.specs.Generators.{Generators}
use Rattle.codes.specs.Taps.{word_of}

-- 2 ^ 19: more than the dearest write of a strip, also where a cell climbs three levels at 255 each
abbrev pub closed : ℕ
closed = 524288

-- closed in 256ths
abbrev pub ceiling : ℕ
ceiling = 256 * closed

-- the most that the number of a state may be before a stage, and that of a word's price: their sum stays below 2 ^ 31
abbrev pub most_cost : ℕ
most_cost = 12 * ceiling

abbrev pub most_price : ℕ
most_price = 2 * ceiling

-- the first for the digit 0, else the second
abbrev pub pick : ℕ → ℕ → ℕ → ℕ
pick zero x y = x
pick (suc d) x y = y

-- n states: a state wants its word for the digit 0, and the word of the other bits for the digit 1; the digits lead to the states 2·s mod n
-- and the one after it
module _ (n : ℕ) (words prices after : ℕ → ℕ) where
  unfoldable pub stage_of : ℕ → ℕ
  stage_of s = min (after (2 * s % n) + prices (words s)) (after (2 * s % n + 1) + prices (3 - words s))

-- the word that each state wants for the digit 0
abbrev pub words_of : Generators → ℕ → ℕ
words_of G s = word_of G (2 * s)

-- what a stage of 64 states asks: four words, and room for a sum
pub record StageRequires (costs words prices : List ℕ) : Type 0 where
  pub size : length costs ≡ 64
  pub words_le : (i : ℕ) → get_or words i 0 ≤ 3
  pub costs_le : (i : ℕ) → get_or costs i 0 ≤ most_cost
  pub prices_le : (i : ℕ) → get_or prices i 0 ≤ most_price

-- a state's number after a stage, by lists
unfoldable pub staged_at : (after words prices : List ℕ) → ℕ → ℕ
staged_at after words prices = stage_of 64 (λ i. get_or words i 0) (λ j. get_or prices j 0) (λ i. get_or after i 0)

-- what half of it asks, its 32 states from the state `at` on: those before it are done; `others` has the prices of the complements
pub record HalfRequires (costs after words prices others : List ℕ) (at : ℕ) : Type 0 where
  pub size : length costs ≡ 64
  pub whole : at % 32 ≡ 0
  pub place : at + 32 ≤ 64
  pub words_le : (i : ℕ) → get_or words i 0 ≤ 3
  pub after_le : (i : ℕ) → get_or after i 0 ≤ most_cost
  pub prices_le : (i : ℕ) → get_or prices i 0 ≤ most_price
  pub others_le : (i : ℕ) → get_or others i 0 ≤ most_price
  pub turned : (j : ℕ) → j ≤ 3 → get_or others j 0 ≡ get_or prices (3 - j) 0
  pub before : (k : ℕ) → k < at → get_or costs k 0 ≡ staged_at after words prices k

-- the numbers of the first n states are a stage earlier
pub record Staged (n : ℕ) (after words prices exit : List ℕ) : Type 0 where
  pub size : length exit ≡ 64
  pub states : (k : ℕ) → k < n → get_or exit k 0 ≡ staged_at after words prices k
