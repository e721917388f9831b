-- The words 0 and 2 have the first code bit 0 and the words 1 and 3 have it 1, so the four places of the row get the two marks by turns.
use Prim.Native.Nat.{◌-◌}
use Rattle.stage_blocks.proofs.Runs.{marked-is}
use Rattle.stage_blocks.proofs.marked.Goals as goal

pub returns-clause-by_index : goal.returns-clause-by_index
returns-clause-by_index c = marked-is c.args.rows.now c.args.row (7 - c.args.i) c.at_stage-zero.ensures.0 c.at_stage-one.ensures.0
