-- The tests are those of the ground.
use native.Mathlib.Omega.{arith}
use borrow.Author.Tests.{le-leb, lt-leb}
use Rattle.refusals.specs.Refusals.{pages_ground}
use Rattle.block_shape.proofs.judge_pages.Goals as goal
use Rattle.block_shape.proofs.judge_pages.Goals.{then-pages-lt2-via-then-pages-lt2, then-pages-lt2-via-else-pages-lt2+then-pages-gt16}

pub returns-then-pages-lt2 : goal.returns-then-pages-lt2
unfolding pages_ground
returns-then-pages-lt2 c =
    elim c.then-pages-lt2.branch [
      | then-pages-lt2-via-then-pages-lt2 w ↦ simp (lt-leb _ _ w.if-pages-lt2.true)
      | then-pages-lt2-via-else-pages-lt2+then-pages-gt16 w ↦ simp (le-leb _ _ w.if-pages-lt2.false, lt-leb c.args.pages 16 (omega (arith, w.if-pages-gt16.true)))
    ]

pub returns : goal.returns
unfolding pages_ground
returns c = simp (le-leb _ _ c.if-pages-lt2.false, le-leb _ _ c.if-pages-gt16.false)
