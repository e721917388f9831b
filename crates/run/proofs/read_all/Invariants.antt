-- The buffers are in order.
use Rattle.script.specs.Buffers.{Ready}
use Rattle.run.proofs.read_all.Given as goal

abbrev pub invariant-loop : goal.invariant-loop
invariant-loop l = Ready l.run l.line l.page l.data
