-- The values are those before line 1.
use Rattle.text.proofs.Lines.{values-none}
use Rattle.turns.specs.Buffers.{page_size}
use Rattle.script.proofs.running.begin.Goals as goal

pub returns-clause-by_index : goal.returns-clause-by_index
unfolding page_size
returns-clause-by_index c =
    let d = c.default.ensures in
    λ line page. rw (c.at_line.ensures, values-none d.0 d.1.0 d.1.1)
