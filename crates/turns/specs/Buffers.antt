-- The page in the program's buffer, and what a whole line asks.
--   most_page          the room for a page
--   page_size, Holds   the bytes of the page, and the buffer that holds it
--   LineRequires       what a line asks
use Rattle.std.specs.Prelude.{◌≡◌, cond, List, ℕ, ◌-◌, ◌<◌, ltb, length, take, drop, replicate}
use Rattle.codes.specs.Layouts.{one_bit, byte_count}
use Rattle.text.specs.declared.Values.{Values}
use Rattle.turn_rows.specs.Rows.{size_of}
use Rattle.turns.specs.Turns.{Progress}

-- the bytes of the largest page, 6·64·64
abbrev pub most_page : ℕ
most_page = 24576

-- the bytes of the page; there is none before line 4
unfoldable pub page_size : ℕ → Values → ℕ
page_size number v = cond (ltb 3 number) (byte_count one_bit (size_of v)) 0

-- a buffer that starts with the page; behind it stand zeros
pub record Holds (p : Progress) (page : List ℕ) : Type 0 where
  pub front : take (page_size p.number p.values) page ≡ p.page
  pub blank : drop (page_size p.number p.values) page ≡ replicate (most_page - page_size p.number p.values) 0

-- what a whole line asks: its number, and buffers for the page and its data
pub record LineRequires (p : Progress) (page content : List ℕ) : Type 0 where
  pub number_some : 0 < p.number
  pub page_long : length page ≡ most_page
  pub data_long : length content ≡ 4096
  pub holds : Holds p page
