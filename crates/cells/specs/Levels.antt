-- The level of a cell, and the sum of the levels.
--   level bytes c       the level of cell c
--   raises_of n bytes   the sum of the levels of the first n cells
--   SameLevels x y      two pages of one length with equal levels
use Rattle.std.specs.Prelude.{◌≡◌, List, ℕ, ◌+◌, ◌*◌, ◌<◌, length}
use Rattle.cells.specs.Places.{sum_of}
use Rattle.cells.specs.Bytes.{bit_of}

-- 'Cell c of a strip is its bits 3·c, 3·c+1 and 3·c+2.' 'A cell's level is the number of ones among its three bits.' A strip has 48·L
-- bits, so cell c of strip k is cell 16·L·k + c of the page, and one definition serves both.
unfoldable pub level : List ℕ → ℕ → ℕ
level bytes c = bit_of bytes (3 * c) + bit_of bytes (3 * c + 1) + bit_of bytes (3 * c + 2)

-- 'the sum of its levels equals the raises'
unfoldable pub raises_of : ℕ → List ℕ → ℕ
raises_of n bytes = sum_of n (level bytes)

-- two pages of one length whose cells have the same levels, whichever of their bits are the ones
pub record SameLevels (x y : List ℕ) : Type 0 where
  pub size : length x ≡ length y
  pub same : (c : ℕ) → 3 * c < 8 * length x → level x c ≡ level y c
