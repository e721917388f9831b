-- Bits and lists of bits as numbers: how the laws' registers and the program's windows and states stand for each other.
--   one-if b   a bit as a number
--   value s    a list of bits as a number, the first bit worth 1
use Rattle.std.specs.Prelude.{Bool, true, false, List, [], ◌∷◌, ℕ, ◌+◌, ◌*◌}

-- a bit as a number
unfoldable pub one-if : Bool → ℕ
one-if true = 1
one-if false = 0

-- a list of bits as a number: of a register the newest bit is the first, and is worth 1
unfoldable pub value : List Bool → ℕ
value [] = 0
value (b ∷ s) = one-if b + 2 * value s
