-- The two tests are those of the grounds, in the same order.
use mathlib.Core.Path.{◌≡◌, sym, ◌∙◌}
use mathlib.Core.Bool.{true}
use Rattle.refusals.specs.Refusals.{one_to_64, limits_ground, bytes_ground, strips_ground}
use Rattle.refusals.proofs.judge_limits.Goals as goal

pub returns-then-not-one_to_64 : goal.returns-then-not-one_to_64
unfolding limits_ground bytes_ground
returns-then-not-one_to_64 c = simp (sym c.one_to_64.ensures ∙ c.if-not-one_to_64.true)

pub returns-then-not-one_to_64-2 : goal.returns-then-not-one_to_64-2
unfolding limits_ground bytes_ground strips_ground
returns-then-not-one_to_64-2 c =
    let bytes_in : one_to_64 c.args.bytes ≡ true = sym c.one_to_64.ensures ∙ c.if-not-one_to_64.false in
    simp (bytes_in, sym c.one_to_64-2.ensures ∙ c.if-not-one_to_64-2.true)

pub returns : goal.returns
unfolding limits_ground bytes_ground strips_ground
returns c =
    let bytes_in : one_to_64 c.args.bytes ≡ true = sym c.one_to_64.ensures ∙ c.if-not-one_to_64.false in
    simp (bytes_in, sym c.one_to_64-2.ensures ∙ c.if-not-one_to_64-2.false)
