-- Each turn tries one more page.
use mathlib.Core.Path.{refl, ◌∙◌}
use native.Mathlib.Omega.{arith}
use Rattle.demand.specs.Offers.{choose}
use Rattle.block.proofs.Puts.{page-tried, pages-tried}
use Rattle.block.proofs.cheapest_page.Goals as goal

pub loop-k-init : goal.loop-k-init
unfolding choose
loop-k-init c = refl

pub loop-k-preserved : goal.loop-k-preserved
loop-k-preserved c =
    page-tried c.args.code c.args.bytes c.args.strips c.args.pages c.args.block.now c.args.data.now c.loop-k.k c.price_put-offer.result
    c.price_put-offer.ensures c.loop-k.invariant c.better-pick.ensures

pub returns : goal.returns
returns c =
    c.loop-k.invariant
    ∙ pages-tried c.args.code c.args.bytes c.args.strips c.args.pages c.args.block.now c.args.data.now (omega arith) c.loop-k-test.false
