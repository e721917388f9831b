-- The paper's number and values for each case of an answer.
--   number_of, value_of       an answer's number and value in the paper
--   answer_cost, offered      an answer's cost; the cost of an answer that is done
--   end_number, list_number   the paper's number of an end, and of a list's answer
--   end_strip, list_strip     the strip that is spent
--   plain_answer              the answer of a write in a band, as a write's
use Rattle.std.proofs.Math.Option.{Option, none, some}
use Rattle.std.specs.Prelude.{ℕ}
use Rattle.refusals.specs.Refusals.{refusal_number}
use Rattle.page_answers.specs.declared.Answer.{Answer}
use Rattle.page_answers.specs.declared.Answer.TheVariants as A
use Rattle.page_answers.specs.declared.End.{End}
use Rattle.page_answers.specs.declared.End.TheVariants as E
use Rattle.page_answers.specs.declared.ListAnswer.{ListAnswer}
use Rattle.page_answers.specs.declared.BandAnswer.{BandAnswer}
use Rattle.page_answers.specs.declared.BandAnswer.TheVariants as B

-- the number of an answer: 0, 7 where the page is spent, or the refusal's
abbrev pub number_of : Answer → ℕ
number_of (A.Done cost) = 0
number_of (A.Spent strip) = 7
number_of (A.Refused r) = refusal_number r

-- its value: the cost, the strip's number where the page is spent, or 0
abbrev pub value_of : Answer → ℕ
value_of (A.Done cost) = cost
value_of (A.Spent strip) = strip
value_of (A.Refused r) = 0

-- 'With any refusal the cost is 0', also with 7
abbrev pub answer_cost : Answer → ℕ
answer_cost (A.Done cost) = cost
answer_cost (A.Spent strip) = 0
answer_cost (A.Refused r) = 0

-- what an answer offers: the cost where it is done
abbrev pub offered : Answer → Option ℕ
offered (A.Done cost) = some cost
offered (A.Spent strip) = none
offered (A.Refused r) = none

-- the number of an end: 0, 7 where the page is spent, or the refusal's
abbrev pub end_number : End → ℕ
end_number E.Done = 0
end_number (E.Spent strip) = 7
end_number (E.Refused r) = refusal_number r

-- the strip that is spent, or 0
abbrev pub end_strip : End → ℕ
end_strip E.Done = 0
end_strip (E.Spent strip) = strip
end_strip (E.Refused r) = 0

-- those of a list's answer
abbrev pub list_number : ListAnswer → ℕ
list_number a = end_number a.end

abbrev pub list_strip : ListAnswer → ℕ
list_strip a = end_strip a.end

-- a write in a band answers as a write does, and says the value stored beside it; its page has one strip, so that the one spent is 0
abbrev pub plain_answer : BandAnswer → Answer
plain_answer (B.Done cost value) = A.Done cost
plain_answer B.Spent = A.Spent 0
plain_answer (B.Refused r) = A.Refused r
