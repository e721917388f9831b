-- THE TABLE of the cases marked P in the paper: one row a case, the sequence of seven writes a row each. And runs of writes from an erased
-- strip, a row each.
--   Expected   reads as the data; done with this cost and page; another page that could be, at this cost; spent with this strip
--   Case       weights, code, L, S, page, data, and what is expected
--   Says       what a case says of the answers and pages of a write, and of the reading
--   cases      the table
--   runs       the runs: four that end with a write for which the page is spent, and one that changes data bit 0 six times
use Rattle.std.specs.Prelude.{◌≡◌, List, [], ◌∷◌, ◌++◌, ℕ}
use Rattle.cells.specs.Climbs.{house}
use Rattle.demand.specs.Demand.{Could, job_cost}
use Rattle.demand.specs.Reading.{read_page}
use Rattle.page_promises.specs.Writes.{job_of}
use Rattle.refusals.specs.Refusals.{numbered}
use Rattle.page_answers.specs.declared.Answer.{Answer}
use Rattle.page_answers.specs.declared.Answer.TheVariants as A

-- what a case expects
pub data Expected : Type 0 where
  reads : Expected
  done : ℕ → List ℕ → Expected
  also : ℕ → List ℕ → Expected
  spent : ℕ → Expected

-- a case
pub record Case : Type 0 where
  pub weights : List ℕ
  pub code : ℕ
  pub L : ℕ
  pub S : ℕ
  pub page : List ℕ
  pub content : List ℕ
  pub expected : Expected

-- what a case says of the answers and the pages of a write, and of the reading
module _ (answers : List ℕ → ℕ → ℕ → ℕ → List ℕ → List ℕ → Answer) (pages : List ℕ → ℕ → ℕ → ℕ → List ℕ → List ℕ → List ℕ) where
  abbrev pub Expects : Case → Expected → Type 0
  Expects c reads = read_page (numbered c.code) c.L c.S c.page ≡ c.content
  Expects c (done cost after) =
      (answers c.weights c.code c.L c.S c.page c.content ≡ A.Done cost)
      × (pages c.weights c.code c.L c.S c.page c.content ≡ after)
  Expects c (also cost other) =
      Could (job_of c.weights c.code c.L c.S c.page c.content) other
      × (job_cost (job_of c.weights c.code c.L c.S c.page c.content) other ≡ cost)
  Expects c (spent k) =
      (answers c.weights c.code c.L c.S c.page c.content ≡ A.Spent k)
      × (pages c.weights c.code c.L c.S c.page c.content ≡ c.page)

  abbrev pub Says : Case → Type 0
  Says c = Expects c c.expected

-- six bytes
abbrev pub six : ℕ → ℕ → ℕ → ℕ → ℕ → ℕ → List ℕ
six a b c d e f = a ∷ b ∷ c ∷ d ∷ e ∷ f ∷ []

-- an erased strip of one data byte, and one whose bits are all ones
abbrev pub erased : List ℕ
erased = six 0 0 0 0 0 0

abbrev pub full : List ℕ
full = six 0xff 0xff 0xff 0xff 0xff 0xff

-- a case with the house's weights and L = 1: code, S, page, data, what is expected
abbrev pub on : ℕ → ℕ → List ℕ → List ℕ → Expected → Case
on code S page content expected =
    record { weights = house; code = code; L = 1; S = S; page = page; content = content; expected = expected }

-- the table
abbrev pub cases : List Case
cases =
    -- 'erased page, write 00: cost 0, unchanged'
    on 3 1 erased (0x00 ∷ []) (done 0 erased)
    -- 'erased, write 01: cost 48', and by request K7 'the bytes of the case 01 become 01 03 00 00 00 00; the cases 40 and 80 stay'
    ∷ on 3 1 erased (0x01 ∷ []) (done 48 (six 0x01 0x03 0 0 0 0))
    -- 'erased, write 40: cost 16, page 00 00 00 00 10 00'
    ∷ on 3 1 erased (0x40 ∷ []) (done 16 (six 0 0 0 0 0x10 0))
    -- 'erased, write 80: cost 16, page 00 00 00 00 00 20.'
    ∷ on 3 1 erased (0x80 ∷ []) (done 16 (six 0 0 0 0 0 0x20))
    -- 'Raising cell 14 costs as much; cell 15 wins the tie.'
    ∷ on 3 1 erased (0x80 ∷ []) (also 16 (six 0 0 0 0 0 0x10))
    -- 'the same write with code 7: same cost and page'
    ∷ on 7 1 erased (0x80 ∷ []) (done 16 (six 0 0 0 0 0 0x20))
    -- 'writes 80, 00, 80, 00, 80, 00, 80 from erased cost 16, 16, 20, 20, 28, 28, 32'
    ∷ on 3 1 erased (0x80 ∷ []) (done 16 (six 0 0 0 0 0 0x20))
    ∷ on 3 1 (six 0 0 0 0 0 0x20) (0x00 ∷ []) (done 16 (six 0 0 0 0 0 0x30))
    ∷ on 3 1 (six 0 0 0 0 0 0x30) (0x80 ∷ []) (done 20 (six 0 0 0 0 0 0x70))
    ∷ on 3 1 (six 0 0 0 0 0 0x70) (0x00 ∷ []) (done 20 (six 0 0 0 0 0 0x74))
    ∷ on 3 1 (six 0 0 0 0 0 0x74) (0x80 ∷ []) (done 28 (six 0 0 0 0 0 0xf4))
    ∷ on 3 1 (six 0 0 0 0 0 0xf4) (0x00 ∷ []) (done 28 (six 0 0 0 0 0 0xfc))
    ∷ on 3 1 (six 0 0 0 0 0 0xfc) (0x80 ∷ []) (done 32 (six 0 0 0 0 0x10 0xfd))
    -- 'page of six ff reads fe with code 3 and 1e with code 7'
    ∷ on 3 1 full (0xfe ∷ []) reads
    ∷ on 7 1 full (0x1e ∷ []) reads
    -- 'on it with code 3, write fe: cost 0, unchanged; write 80: spent, strip 0'
    ∷ on 3 1 full (0xfe ∷ []) (done 0 full)
    ∷ on 3 1 full (0x80 ∷ []) (spent 0)
    -- 'S = 2, erased, write 80 40: cost 32'
    ∷ on 3 2 (erased ++ erased) (0x80 ∷ 0x40 ∷ []) (done 32 ((six 0 0 0 0 0 0x20) ++ (six 0 0 0 0 0x10 0)))
    -- 'S = 2, strip 0 erased, strip 1 all ff: 80 00 is spent with strip 1, 80 fe costs 16'
    ∷ on 3 2 (erased ++ full) (0x80 ∷ 0x00 ∷ []) (spent 1)
    ∷ on 3 2 (erased ++ full) (0x80 ∷ 0xfe ∷ []) (done 16 ((six 0 0 0 0 0 0x20) ++ full))
    ∷ []

-- RUNS. A write of a run on a page of one strip: weights, code, L, page, data, what is expected
abbrev pub on_strip : List ℕ → ℕ → ℕ → List ℕ → List ℕ → Expected → Case
on_strip W code L page content expected =
    record { weights = W; code = code; L = L; S = 1; page = page; content = content; expected = expected }

-- the weights 1, 1, 1
abbrev pub ones : List ℕ
ones = 1 ∷ 1 ∷ 1 ∷ []

-- a strip of one data byte whose cells after the first five are at level 0
abbrev pub early : ℕ → ℕ → List ℕ
early a b = six a b 0 0 0 0

-- with code 3 and the weights 1, 1, 1 the strip takes 02, 00, 02, and is spent for 01
abbrev pub short_run : List Case
short_run =
    on_strip ones 3 1 erased (0x02 ∷ []) (done 2 (early 0x11 0))
    ∷ on_strip ones 3 1 (early 0x11 0) (0x00 ∷ []) (done 2 (early 0x33 0))
    ∷ on_strip ones 3 1 (early 0x33 0) (0x02 ∷ []) (done 2 (early 0x3f 0))
    ∷ on_strip ones 3 1 (early 0x3f 0) (0x01 ∷ []) (spent 0)
    ∷ []

-- with code 7 it takes c2, 00, c2, and is spent for 01
abbrev pub long_run : List Case
long_run =
    on_strip ones 7 1 erased (0xc2 ∷ []) (done 3 (six 0x11 0 0 0 0x08 0))
    ∷ on_strip ones 7 1 (six 0x11 0 0 0 0x08 0) (0x00 ∷ []) (done 3 (six 0x33 0 0 0 0x0a 0))
    ∷ on_strip ones 7 1 (six 0x33 0 0 0 0x0a 0) (0xc2 ∷ []) (done 3 (six 0x3f 0 0 0 0x0e 0))
    ∷ on_strip ones 7 1 (six 0x3f 0 0 0 0x0e 0) (0x01 ∷ []) (spent 0)
    ∷ []

-- with the house's weights too: code 7 and L = 2
abbrev pub house_run : List Case
house_run =
    on_strip house 7 2 (erased ++ erased) (0x22 ∷ 0x00 ∷ []) (done 32 (early 0x11 0 ++ erased))
    ∷ on_strip house 7 2 (early 0x11 0 ++ erased) (0x00 ∷ 0x00 ∷ []) (done 40 (early 0x33 0 ++ erased))
    ∷ on_strip house 7 2 (early 0x33 0 ++ erased) (0x22 ∷ 0x00 ∷ []) (done 56 (early 0x3f 0 ++ erased))
    ∷ on_strip house 7 2 (early 0x3f 0 ++ erased) (0x01 ∷ 0x00 ∷ []) (spent 0)
    ∷ []

-- code 3 with the house's weights is spent for a fifth
abbrev pub fifth_run : List Case
fifth_run =
    on_strip house 3 1 erased (0x02 ∷ []) (done 32 (early 0x11 0))
    ∷ on_strip house 3 1 (early 0x11 0) (0x00 ∷ []) (done 40 (early 0x33 0))
    ∷ on_strip house 3 1 (early 0x33 0) (0x02 ∷ []) (done 48 (six 0x33 0x21 0x02 0 0 0))
    ∷ on_strip house 3 1 (six 0x33 0x21 0x02 0 0 0) (0x00 ∷ []) (done 56 (six 0x3f 0x21 0x02 0 0 0))
    ∷ on_strip house 3 1 (six 0x3f 0x21 0x02 0 0 0) (0x01 ∷ []) (spent 0)
    ∷ []

-- data bit 0 changes six times: each write raises one of the first two cells
abbrev pub changing_run : List Case
changing_run =
    on_strip house 3 1 erased (0x05 ∷ []) (done 16 (early 0x01 0))
    ∷ on_strip house 3 1 (early 0x01 0) (0x02 ∷ []) (done 16 (early 0x11 0))
    ∷ on_strip house 3 1 (early 0x11 0) (0x05 ∷ []) (done 20 (early 0x31 0))
    ∷ on_strip house 3 1 (early 0x31 0) (0x00 ∷ []) (done 20 (early 0x33 0))
    ∷ on_strip house 3 1 (early 0x33 0) (0x05 ∷ []) (done 28 (early 0x37 0))
    ∷ on_strip house 3 1 (early 0x37 0) (0x02 ∷ []) (done 28 (early 0x3f 0))
    ∷ []

abbrev pub runs : List (List Case)
runs = short_run ∷ long_run ∷ house_run ∷ fifth_run ∷ changing_run ∷ []
