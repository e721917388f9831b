-- A code by its name.
--   named n                   the memory and the generators of a code's name
--   generators_of c           and of a code
--   next_of m s d             the state that follows
--   TableRow c r              the program's row r holds the code c
--   WindowsBefore strip q w   the program's windows w hold the cell bits before byte q of the data
use Rattle.std.specs.Prelude.{◌≡◌, List, ℕ, ◌+◌, ◌*◌, ◌%◌, ◌^◌, ◌≤◌}
use Rattle.cells.specs.Levels.{level}
use Rattle.codes.specs.Generators.{Generators, g2, short, long}
use Rattle.codes.specs.Taps.{first_bit, second_bit, window_of}
use Rattle.codes.specs.declared.Code.{Code}
use Rattle.codes.specs.declared.CodeRow.{CodeRow}
use Rattle.codes.specs.declared.strips.Windows.{Windows}
use Rattle.codes.specs.declared.Name.{Name}
use Rattle.codes.specs.declared.Name.TheVariants.{Short, Long}

-- 'The codes are made by name, short or long'
abbrev pub named : Name → Generators
named Short = short
named Long = long

-- a code is its name
abbrev pub generators_of : Code → Generators
generators_of c = named c.name

-- 'A state holds the last m input digits of the code's encoder, the newest worth 1. Given a state s and a digit d, a code returns the state
-- that follows, (2·s + d mod 2) mod 2^m, for every s and d.'
abbrev pub next_of : ℕ → ℕ → ℕ → ℕ
next_of m s d = (2 * s + d % 2) % 2 ^ m

-- a row of the program's table holds the memory, which is at most 6, and the generators of a code
pub record TableRow (c : Code) (r : CodeRow) : Type 0 where
  pub memory_is : r.memory ≡ (generators_of c).memory
  pub memory_fits : r.memory ≤ 6
  pub g1_is : r.g1 ≡ (generators_of c).g1
  pub g2_is : r.g2 ≡ g2 (generators_of c)

-- the program's windows hold the last bits of the first and of the second cells of the stages before byte q
pub record WindowsBefore (strip : List ℕ) (q : ℕ) (w : Windows) : Type 0 where
  pub first_is : w.first ≡ window_of 7 (first_bit (level strip)) (8 * q)
  pub second_is : w.second ≡ window_of 7 (second_bit (level strip)) (8 * q)
