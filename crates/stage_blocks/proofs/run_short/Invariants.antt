-- The invariant: the four numbers are those of the four states before the stages done, which are the last 8 - i.
use Prim.Native.Nat.{◌-◌}
use lib.ListN.{get_or}
use Rattle.codes.specs.Generators.{short}
use Rattle.stages.specs.Stage.{words_of}
use Rattle.stage_blocks.specs.Blocks.{block_of}
use Rattle.stage_blocks.proofs.Runs.{Four}
use Rattle.stage_blocks.proofs.run_short.Given as goal

abbrev pub invariant-loop-i : goal.invariant-loop-i
invariant-loop-i l =
    Four (block_of 8 4 (words_of short) l.rows l.picks (λ k. get_or l.costs k 0) (8 - l.i)) l.a l.b l.c l.d
