-- The invariant: the strips before k are raised to what their digits want, and from strip k on the page is as it was.
use Rattle.codes.specs.Codes.{generators_of}
use Rattle.page_rewriting.proofs.Loops.{CarriedUpTo}
use Rattle.page_rewriting.proofs.Job.carry_strips.Given as goal

abbrev pub invariant-loop-k : goal.invariant-loop-k
invariant-loop-k l =
    let J = l.self in CarriedUpTo (generators_of J.code) J.bytes J.strips l.initial.page J.«data».now l.digits l.page l.k
