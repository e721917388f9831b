-- Raising: which bit of a cell becomes one, and the bytes after it.
--   start_of c                 the bit at which the raises of a cell start to look for a zero, by the cell's number in its strip
--   older_start c              the same in the releases before request K7
--   start_in start n c         the same for cell c of a page whose strips have n cells each, by any such order of its cells
--   zero_from s bits           the place of the first zero from bit s on, going round the three
--   raise s bits               the bits of a cell raised by one
--   raised_times s n bits      raised n times
--   triple page c              the three bits of cell c
--   raised_to start page to    the page with each cell c raised to the level to c, byte for byte; its raises start at bit start c
--   one_higher page c          the levels of the page, with cell c one higher
--   raised_cell start page c   the page with cell c raised by one
--   can_rise page c            whether cell c can be raised
use Rattle.std.specs.Prelude.{Bool, cond, ◌&&◌, List, [], ◌∷◌, ℕ, zero, suc, ◌+◌, ◌*◌, ◌-◌, ◌/◌, ◌%◌, eqb, ltb, get_or, length, set}
use Rattle.cells.specs.Bytes.{bit_of, bytes_of}
use Rattle.cells.specs.Levels.{level}

-- 'From this release a raise starts at the cell's bit number (cell number in its strip mod 3)' (document 02, K7)
unfoldable pub start_of : ℕ → ℕ
start_of c = c % 3

-- in the releases before, 'a cell raised by one turns its lowest-numbered zero bit into a one': every raise starts at bit 0
unfoldable pub older_start : ℕ → ℕ
older_start c = 0

-- cell c of a page has the number c mod n in its strip of n cells
unfoldable pub start_in : (ℕ → ℕ) → ℕ → ℕ → ℕ
start_in start n c = start (c % n)

-- it 'goes round the three until it meets a zero': the place of the first zero of three bits from bit s on; the third of them where the
-- first two are ones
unfoldable pub zero_from : ℕ → List ℕ → ℕ
zero_from s bits =
    cond (eqb (get_or bits (s % 3) 0) 0) (s % 3) (cond (eqb (get_or bits ((s + 1) % 3) 0) 0) ((s + 1) % 3) ((s + 2) % 3))

-- a cell raised by one: that zero turned into a one, and three ones as they are
unfoldable pub raise : ℕ → List ℕ → List ℕ
raise s bits = set bits (zero_from s bits) 1

-- 'a cell that isn't raised keeps its bits'; n raises, one after the other
unfoldable pub raised_times : ℕ → ℕ → List ℕ → List ℕ
raised_times s zero bits = bits
raised_times s (suc n) bits = raise s (raised_times s n bits)

-- the three bits of a cell
unfoldable pub triple : List ℕ → ℕ → List ℕ
triple page c = bit_of page (3 * c) ∷ bit_of page (3 * c + 1) ∷ bit_of page (3 * c + 2) ∷ []

-- the page with each cell c raised to the level to c: bit k of the page is bit k mod 3 of cell k div 3
unfoldable pub raised_to : (ℕ → ℕ) → List ℕ → (ℕ → ℕ) → List ℕ
raised_to start page to =
    bytes_of (length page) (λ k. get_or (raised_times (start (k / 3)) (to (k / 3) - level page (k / 3)) (triple page (k / 3))) (k % 3) 0)

-- the page's levels, with that of cell c one higher
unfoldable pub one_higher : List ℕ → ℕ → ℕ → ℕ
one_higher page c e = cond (eqb e c) (suc (level page e)) (level page e)

-- the page with cell c raised by one, every other cell as it is
unfoldable pub raised_cell : (ℕ → ℕ) → List ℕ → ℕ → List ℕ
raised_cell start page c = raised_to start page (one_higher page c)

-- a cell of the page that is below level 3 can be raised, and no other
unfoldable pub can_rise : List ℕ → ℕ → Bool
can_rise page c = ltb (3 * c + 2) (8 * length page) && ltb (level page c) 3
