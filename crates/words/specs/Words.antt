-- The one number that an answer is to C.
--   answer_word, completion_word
--   list_word   that of a list's answer
--   Fields      the fields of that number
use Rattle.std.specs.Prelude.{◌≡◌, ℕ, ◌+◌, ◌*◌, ◌/◌, ◌%◌, ◌^◌, Result, ⊤}
use Rattle.page_answers.specs.Answers.{number_of, value_of, list_number, list_strip}
use Rattle.refusals.specs.Refusals.{completion_number}
use Rattle.page_answers.specs.declared.Answer.{Answer}
use Rattle.page_answers.specs.declared.ListAnswer.{ListAnswer}
use Rattle.refusals.specs.declared.Refusal.{Refusal}

-- 'To C an answer is one unsigned 64-bit number: 0 or the refusal's number, times 2^32, plus the cost, or plus the strip's number where the
-- page is spent.'
unfoldable pub answer_word : Answer → ℕ
answer_word a = number_of a * 2 ^ 32 + value_of a

-- the same of a call that has no cost
unfoldable pub completion_word : Result ⊤ Refusal → ℕ
completion_word c = completion_number c * 2 ^ 32

-- of a list 'to C the low 32 bits are the summed cost, also when spent', with the refusal's number times 2^32; 'the number written is added
-- times 2^40, a spent strip times 2^48'
unfoldable pub list_word : ListAnswer → ℕ
list_word a = a.cost + list_number a * 2 ^ 32 + a.written * 2 ^ 40 + list_strip a * 2 ^ 48

-- no field runs into the next one: each is read back
pub record Fields (word : ℕ) (a : ListAnswer) : Type 0 where
  pub cost_field : word % 2 ^ 32 ≡ a.cost
  pub number_field : word / 2 ^ 32 % 2 ^ 8 ≡ list_number a
  pub written_field : word / 2 ^ 40 % 2 ^ 8 ≡ a.written
  pub strip_field : word / 2 ^ 48 ≡ list_strip a
