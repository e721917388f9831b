-- The run's position in the program's values and buffers.
--   kept_bytes     the room for a line
--   position_of    the position that the values and buffers stand for
--   Ready, Blank   values and buffers that are in order; buffers before the first byte
--   LineEnd        where a line ends within bytes
--   KeptPart       the bytes of a line so far, in their buffer
--   Stepped        what a step of the program gives
use Rattle.std.specs.Prelude.{◌≡◌, List, ℕ, ◌<◌, ◌≤◌, length, take, drop, get_or, replicate}
use Rattle.turns.specs.Turns.{at_line}
use Rattle.turns.specs.declared.Run.{Run}
use Rattle.script.specs.declared.Step.{Step}
use Rattle.turns.specs.Buffers.{most_page, page_size, Holds}
use Rattle.script.specs.Positions.{Position, Takes}

-- one byte more than the longest line in form has: what is cut off is in no form either
abbrev pub kept_bytes : ℕ
kept_bytes = 8193

-- the program's buffers hold the bytes of the line so far and the page, each from its first byte on
abbrev pub position_of : Run → (line page : List ℕ) → Position
position_of r line page = record {
  progress = at_line r.number r.values (take (page_size r.number r.values) page);
  begun = take r.used line;
  on = r.on;
}

-- buffers for the largest page, its data and its line. What the data hold, and the line behind its bytes so far, is free
pub record Ready (r : Run) (line page content : List ℕ) : Type 0 where
  pub line_long : length line ≡ kept_bytes
  pub page_long : length page ≡ most_page
  pub data_long : length content ≡ 4096
  pub used_most : r.used ≤ kept_bytes
  pub number_some : 0 < r.number
  pub holds : Holds (position_of r line page).progress page

-- buffers of that size, all zeros, are in order before the first byte
pub record Blank (line page content : List ℕ) : Type 0 where
  pub line_long : length line ≡ kept_bytes
  pub page_is : page ≡ replicate most_page 0
  pub data_long : length content ≡ 4096

-- the first byte 10 stands at `end`, or there is none and `end` is the end of the bytes
pub record LineEnd (bytes : List ℕ) (end : ℕ) : Type 0 where
  pub inside : end ≤ length bytes
  pub none_before : (k : ℕ) → k < end → get_or bytes k 0 ≡ 10 → ⊥
  pub there : end < length bytes → get_or bytes end 0 ≡ 10

-- the first `used` bytes of the buffer are the bytes of a line so far, as many as it holds; the others are as they were
pub record KeptPart (part before : List ℕ) (used : ℕ) (line : List ℕ) : Type 0 where
  pub size : length line ≡ length before
  pub inside : used ≤ length line
  pub part_is : take used line ≡ take (length before) part
  pub others : drop used line ≡ drop used before

-- some of the bytes are taken, and the text, of at most 96 bytes, is all that they print
pub record Stepped (s : Position) (bytes : List ℕ) (r : Step) (t : Position) : Type 0 where
  pub near : length r.printed ≤ 96
  pub taken_most : r.taken ≤ length bytes
  pub taken_some : 0 < length bytes → 0 < r.taken
  pub takes : Takes s (take r.taken bytes) r.printed t
