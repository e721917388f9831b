use mathlib.Core.Path.{refl, sym}
use native.Mathlib.Omega.{arith}
use Rattle.cells.specs.Places.{sum_of}
use Rattle.cells.specs.Levels.{level}
use Rattle.page_counting.specs.Counting.{count_of, row_of}
use Rattle.page_counting.proofs.Counts.{row-le, row_next}
use Rattle.page_counting.proofs.counting.row_of.Goals as goal

pub loop-c-init : goal.loop-c-init
unfolding row_of count_of sum_of
loop-c-init c = refl

pub overflow_add-counts : goal.overflow_add-counts
overflow_add-counts c =
    record {
      fits = rw c.loop-c.invariant
          (omega (arith, row-le c.loop-c.c (level c.args.strip.now) c.level.result c.level.ensures.1));
    }

pub loop-c-preserved : goal.loop-c-preserved
loop-c-preserved c =
    rw c.loop-c.invariant (row_next c.loop-c.c (level c.args.strip.now) c.level.result (sym c.level.ensures.0) c.level.ensures.1)
