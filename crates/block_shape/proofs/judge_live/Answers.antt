-- The test is that of the ground.
use borrow.Author.Tests.{lt-ltb, le-ltb}
use Rattle.refusals.specs.Refusals.{live_ground}
use Rattle.block_shape.proofs.judge_live.Goals as goal

pub returns-then-live-pages : goal.returns-then-live-pages
unfolding live_ground
returns-then-live-pages c = rw (lt-ltb c.args.live c.args.pages c.if-live-pages.true)

pub returns : goal.returns
unfolding live_ground
returns c = rw (le-ltb c.args.live c.args.pages c.if-live-pages.false)
