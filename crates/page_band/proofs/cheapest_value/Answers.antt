-- Each turn tries one more value.
use mathlib.Core.Path.{refl, ◌∙◌, ap}
use Prim.Native.Nat.{ℕ, ◌+◌}
use Rattle.demand.specs.Offers.{choose}
use Rattle.refusals.proofs.Refusals.{band-limit, value-band}
use Rattle.page_promises.proofs.Band.{value-plain}
use Rattle.page_band.proofs.Values.{turn-tried, all-tried}
use Rattle.page_band.proofs.cheapest_value.Goals as goal

pub value_count-k-end-requires : goal.value_count-k-end-requires
value_count-k-end-requires c = band-limit _ (value-band c.args.code c.args.band _ c.requires)

pub loop-k-init : goal.loop-k-init
unfolding choose
loop-k-init c = refl

pub price_value-price-requires : goal.price_value-price-requires
price_value-price-requires c = value-plain c.args.code c.args.band c.args.page.now c.requires

pub loop-k-preserved : goal.loop-k-preserved
loop-k-preserved c =
    let at = c.value_at-tried.ensures ∙ ap (λ (low : ℕ). low + c.loop-k.k) c.lowest_value-low.ensures in
    turn-tried c.args.code c.args.page.now c.args.value c.args.band c.loop-k.k at c.price_value-price.ensures
    (c.from.ensures ∙ c.abs_diff.ensures) c.loop-k.invariant c.better-pick.ensures

pub returns : goal.returns
returns c =
    c.loop-k.invariant ∙ all-tried c.args.code c.args.page.now c.args.value c.args.band c.value_count-k-end.ensures c.loop-k.auto.k-end c.loop-k-test.false
