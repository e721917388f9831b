-- The directory is in order for the read, which is the one byte.
use mathlib.Core.Path.{◌∙◌, ap}
use mathlib.Core.List.{List}
use Prim.Native.Nat.{ℕ}
use lib.ListN.{get_or}
use Rattle.block_promises.specs.Block.{live_of}
use Rattle.block_reading.proofs.Lent.{directory-reads}
use Rattle.block_reading.proofs.live_page.Goals as goal

pub returns : goal.returns
unfolding live_of
returns c =
    c.from.ensures ∙ ap (λ (l : List ℕ). get_or l 0 0) (rw (directory-reads c.args.block.now c.requires) at c.read.ensures.data_after)
