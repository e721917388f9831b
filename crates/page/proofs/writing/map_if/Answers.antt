-- An empty map marks no cell.
use mathlib.Core.Path.{refl}
use Rattle.page.proofs.Calls.{lent-map}
use Rattle.page.proofs.writing.map_if.Goals as goal

pub returns : goal.returns
returns c = lent-map c.args.map _ _ c.unwrap_or.ensures refl
