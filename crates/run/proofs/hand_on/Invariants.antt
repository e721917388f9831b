-- The bytes so far lead from where the run was to where it is, and the others are the rest.
use Rattle.std.proofs.Common.{length, take, drop, ◌-◌, ◌≡◌, ◌≤◌}
use Rattle.script.specs.Positions.{Leads}
use Rattle.script.specs.Buffers.{position_of, Ready}
use Rattle.run.proofs.hand_on.Given as goal

abbrev pub invariant-loop-rest : goal.invariant-loop-rest
invariant-loop-rest l = record {
  within : length l.rest ≤ length l.bytes;
  others : l.rest ≡ drop (length l.bytes - length l.rest) l.bytes;
  ready : Ready l.state l.line l.page l.data;
  leads : Leads (position_of l.initial.state l.initial.line l.initial.page) (take (length l.bytes - length l.rest) l.bytes)
      (position_of l.state l.line l.page);
}

abbrev pub decreases-loop-rest : goal.decreases-loop-rest
decreases-loop-rest l = length l.rest
