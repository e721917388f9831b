-- The strips of the one value, with the house's weights and a map that marks no cell.
use mathlib.Core.Path.{◌∙◌, ap}
use mathlib.Core.Option.{none}
use Rattle.cells.proofs.Marks.{no-map}
use Rattle.page_promises.specs.Writes.{job_answer}
use Rattle.page_band.proofs.Values.{house-weighed, lent-in-order, lent-job}
use Rattle.page_band.proofs.price_value.Goals as goal

pub invariant_of-job : goal.invariant_of-job
invariant_of-job c =
    let both = lent-in-order c.args.code c.args.page.now c.args.value c.house_weights-weights.ensures c.value_bytes-data.ensures
    c.requires in
    record {
      weighed = rw c.house_weights-weights.ensures house-weighed;
      dear = both.1;
      bytes_in = both.0.bytes_in;
      strips_in = both.0.strips_in;
      data_is = both.0.data_is;
    }

pub price_strips-requires : goal.price_strips-requires
price_strips-requires c =
    let both = lent-in-order c.args.code c.args.page.now c.args.value c.house_weights-weights.ensures c.value_bytes-data.ensures
    c.requires in
    record { page_is = both.0.page_is }

pub returns : goal.returns
returns c =
    c.price_strips.ensures
    ∙ ap (job_answer none) (lent-job c.args.code c.args.page.now c.args.value c.house_weights-weights.ensures c.value_bytes-data.ensures
    c.code_of.ensures no-map)
