-- The answer is the call's, in one word.
use mir.Syntax.{w16}
use mir.ValLaws.{to_z-of_z}
use Rattle.firmware.proofs.segrunov_block_erase.Goals as goal

pub returns : goal.returns
returns c =
    let e = rw (to_z-of_z w16 c.args.tenths c.ranges.tenths) at c.erase.ensures in
    record {
      value = rw e.value at c.completion_word.ensures;
      block_after = e.block_after;
    }
