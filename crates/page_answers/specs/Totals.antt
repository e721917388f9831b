-- The running total of a page: it is handed a strip's outcome and comes back with it added.
--   added t o          the total with an outcome added; once spent it stays
--   total_from t f n   with the outcomes f 0 .. f (n − 1) added, one after the other
--   answer_for t       what a total answers
use Rattle.std.specs.Prelude.{ℕ, zero, suc, ◌+◌, ◌%◌, ◌^◌, Bool, true, false, Option, Some, None}
use Rattle.page_answers.specs.declared.Total.{Total}
use Rattle.page_answers.specs.declared.Answer.{Answer}
use Rattle.page_answers.specs.declared.Answer.TheVariants as A

-- nothing yet
abbrev pub no_total : Total
no_total = record { cost = 0; strips = 0; spent = false }

-- an outcome added to a total that is not spent: `strips` is the number of the next strip, and of the spent one
abbrev pub with_outcome : Total → Option ℕ → Total
with_outcome t (Some c) = record { cost = (t.cost + c) % 2 ^ 64; strips = (t.strips + 1) % 2 ^ 32; spent = false }
with_outcome t None = record { cost = t.cost; strips = t.strips; spent = true }

-- 'The running total of a page is handed a strip's outcome and comes back with it added.'
abbrev pub unless_spent : Bool → Total → Total → Total
unless_spent true t u = t
unless_spent false t u = u

abbrev pub added : Total → Option ℕ → Total
added t o = unless_spent t.spent t (with_outcome t o)

-- several outcomes
unfoldable pub total_from : Total → (ℕ → Option ℕ) → ℕ → Total
total_from t f zero = t
total_from t f (suc n) = total_from (added t (f 0)) (λ i. f (suc i)) n

-- spent with the strip's number, or done with the cost
abbrev pub spent_or_done : Bool → ℕ → ℕ → Answer
spent_or_done true cost strip = A.Spent strip
spent_or_done false cost strip = A.Done cost

abbrev pub answer_for : Total → Answer
answer_for t = spent_or_done t.spent (t.cost % 2 ^ 32) t.strips
