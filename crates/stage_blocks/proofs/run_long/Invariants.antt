-- The invariant: the numbers are those before the stages done, which are the last 8 - i; the table has the words of the long code.
use mathlib.Core.Path.{◌≡◌}
use Prim.Native.Nat.{ℕ, ◌-◌, ◌<◌}
use lib.ListN.{length, get_or}
use Rattle.cells.specs.Places.{list_of}
use Rattle.codes.specs.Generators.{long}
use Rattle.stages.specs.Stage.{words_of}
use Rattle.stage_blocks.specs.Blocks.{block_of}
use Rattle.stage_blocks.proofs.run_long.Given as goal

abbrev pub invariant-loop-i : goal.invariant-loop-i
invariant-loop-i l =
    (l.words ≡ list_of 64 (words_of long))
    × (length l.costs ≡ 64)
    × ((s : ℕ) → s < 64 → get_or l.costs s 0 ≡ block_of 8 64 (words_of long) l.rows l.picks (λ k. get_or l.initial.costs k 0) (8 - l.i) s)
