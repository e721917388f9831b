-- The bytes are copied behind those before them.
use Rattle.script.proofs.Kept.{kept_copied}
use Rattle.script.proofs.running.keep_part.Goals as goal

pub returns-clause-kept_part : goal.returns-clause-kept_part
returns-clause-kept_part c =
    kept_copied c.args.line.now c.args.bytes.now c.copy_from_slice.new.self c.args.used _ _ c.requires c.line_end-end.ensures.inside c.min-kept.ensures
    c.copy_from_slice.ensures.after
