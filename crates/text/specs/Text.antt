-- Text, as lists of bytes.
--   decimal                  a number in decimal
--   values_text              line 2
--   names_text, data_text    lines 1 and 3
--   head_text, row_text      what is printed after line 3, and for each write
--   fault_head, fault_text   what is printed at a fault
use Rattle.std.specs.Prelude.{cond, List, [], ◌∷◌, ◌++◌, ℕ, zero, suc, ◌+◌, ◌/◌, ◌%◌, ltb}
use Rattle.text.specs.declared.Values.{Values}

-- the decimal digits of n in front of a text, the last digit first; k is more than their count
unfoldable pub onto : ℕ → ℕ → List ℕ → List ℕ
onto zero n rest = rest
onto (suc k) n rest = cond (ltb n 10) ((48 + n) ∷ rest) (onto k (n / 10) ((48 + n % 10) ∷ rest))

-- 'in decimal', 'no leading zero but for 0 itself': a number has at most as many digits as it is worth, and one
unfoldable pub decimal : ℕ → List ℕ
decimal n = onto (suc n) n []

-- 'Line 1 is `code bytes strips`'
abbrev pub names_text : List ℕ
names_text = 99 ∷ 111 ∷ 100 ∷ 101 ∷ 32 ∷ 98 ∷ 121 ∷ 116 ∷ 101 ∷ 115 ∷ 32 ∷ 115 ∷ 116 ∷ 114 ∷ 105 ∷ 112 ∷ 115 ∷ []

-- 'line 2 the three values in decimal, separated by one space'
unfoldable pub values_text : Values → List ℕ
values_text v = decimal v.code ++ 32 ∷ (decimal v.bytes ++ 32 ∷ decimal v.strips)

-- 'Line 3 is `data`'
abbrev pub data_text : List ℕ
data_text = 100 ∷ 97 ∷ 116 ∷ 97 ∷ []

-- 'it prints `write answer cost levels`'
unfoldable pub head_text : List ℕ
head_text =
    119 ∷ 114 ∷ 105 ∷ 116 ∷ 101 ∷ 32 ∷ 97 ∷ 110 ∷ 115 ∷ 119 ∷ 101 ∷ 114 ∷ 32
    ∷ 99 ∷ 111 ∷ 115 ∷ 116 ∷ 32 ∷ 108 ∷ 101 ∷ 118 ∷ 101 ∷ 108 ∷ 115 ∷ 10 ∷ []

-- 'one row a write: its number from 1, 0 or 7, the cost, the sum of the levels after it'
unfoldable pub row_text : ℕ → ℕ → ℕ → ℕ → List ℕ
row_text number answer cost levels = decimal number ++ 32 ∷ (decimal answer ++ 32 ∷ (decimal cost ++ 32 ∷ (decimal levels ++ 10 ∷ [])))

-- the first line of what a fault prints
unfoldable pub fault_head : List ℕ
fault_head = 114 ∷ 101 ∷ 102 ∷ 117 ∷ 115 ∷ 97 ∷ 108 ∷ 32 ∷ 108 ∷ 105 ∷ 110 ∷ 101 ∷ 10 ∷ []

-- 'The program then prints `refusal line`, the two values in a line'
unfoldable pub fault_text : ℕ → ℕ → List ℕ
fault_text refusal line = fault_head ++ (decimal refusal ++ 32 ∷ (decimal line ++ 10 ∷ []))
