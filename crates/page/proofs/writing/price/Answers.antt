-- The price with the house's weights.
use mathlib.Core.Option.{none}
use Rattle.page_promises.proofs.Bounds.{house-largest}
use Rattle.page.proofs.Calls.{octets}
use Rattle.page.proofs.writing.price.Goals as goal

pub returns : goal.returns
returns c =
    let p = rw c.house_weights.ensures at c.price_weighted.ensures in
    record {
      value = p.value;
      wrote = p.wrote;
      result_bound = house-largest none _ _ _ _ _ (octets c.type_inv.data) p.value;
    }
