-- The library's `==` is `same_list`.
use mathlib.Core.Path.{◌∙◌}
use Rattle.text.proofs.Lines.{same_list-pointwise}
use Rattle.text.proofs.parsing.is_data.Goals as goal

pub returns : goal.returns
returns c = let e = c.eq.ensures ∙ same_list-pointwise c.args.line.now c.as_slice.result.now in rw c.as_slice.ensures at e
