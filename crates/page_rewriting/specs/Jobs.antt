-- What the program calls a job, on a page.
--   job_on   the job of a page, one bit a cell
use Rattle.std.specs.Prelude.{List, ℕ}
use Rattle.cells.specs.Marks.{marks_in}
use Rattle.codes.specs.Codes.{generators_of}
use Rattle.demand.specs.Jobs as demand
use Rattle.page_promises.specs.Writes.{one_bit_job}
use Rattle.page_rewriting.specs.declared.Job.{Job}

-- the job of a page, one bit a cell
abbrev pub job_on : Job → List ℕ → demand.Job
job_on J page = one_bit_job (marks_in J.map.now) (generators_of J.code) J.weights J.bytes J.strips page J.«data».now
