-- A FAMILY OF JOBS, of which one is carried out.
--   job_offer    what a job costs, or none where its page is spent
--   CheapestOf   the cheapest page over everything that could be for any of the jobs
use Rattle.std.specs.Prelude.{List, ℕ}
use Rattle.std.proofs.Math.Option.{Option, none}
use Rattle.demand.specs.Jobs.{Job}
use Rattle.demand.specs.Demand.{Could, job_cost, Cheapest}
use Rattle.demand.specs.Offers.{LeastOf}
use Rattle.page_answers.specs.Answers.{offered}
use Rattle.page_promises.specs.Writes.{job_answer}

-- what a job that is in order costs, or none where its page is spent
abbrev pub job_offer : Job → Option ℕ
job_offer J = offered (job_answer none J)

-- job i's page at this cost is the cheapest of its own, and the choice over the union: nothing that could be for any of the n jobs costs
-- less, and what costs the same is for a job that i is preferred to, or for i
pub record CheapestOf (start rank : ℕ → ℕ) (n : ℕ) (J : ℕ → Job) (i : ℕ) (after : List ℕ) (cost : ℕ) : Type 0 where
  pub own : Cheapest start (J i) after cost
  pub union : LeastOf rank n (λ j. Could (J j)) (λ j. job_cost (J j)) i cost
