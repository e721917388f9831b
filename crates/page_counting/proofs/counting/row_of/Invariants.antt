-- The invariant: the counts are those of the first c cells.
use mathlib.Core.Path.{◌≡◌}
use Rattle.cells.specs.Levels.{level}
use Rattle.page_counting.specs.Counting.{row_of}
use Rattle.page_counting.proofs.counting.row_of.Given as goal

abbrev pub invariant-loop-c : goal.invariant-loop-c
invariant-loop-c l = l.counts ≡ (row_of l.c (level l.strip)).counts
