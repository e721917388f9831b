-- What is chosen is a value of the band.
use mathlib.Core.Path.{sym, ◌∙◌, ap}
use Rattle.page_choosing.specs.Picks.{taken}
use Rattle.page_promises.proofs.Band.{value-plain}
use Rattle.page_band.proofs.Values.{sixteen-bits, place-fits}
use Rattle.page_band.proofs.store_value.Goals as goal

pub value_at-stored-requires : goal.value_at-stored-requires
value_at-stored-requires c =
    place-fits c.args.code c.args.page.now c.args.value c.args.band (sixteen-bits c.ranges.value) c.lowest_value.ensures
    (sym c.cheapest_value.ensures ∙ ap taken c.in-Some.is)

pub write_value-requires : goal.write_value-requires
write_value-requires c = value-plain c.args.code c.args.band c.args.page.now c.requires
