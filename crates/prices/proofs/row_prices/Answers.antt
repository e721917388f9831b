-- The word's first bit is that of the row's number, or the first cell is raised; its second bit is the label, or the other one.
use mathlib.Core.Path.{◌≡◌, sym, ◌∙◌, ap}
use mathlib.Core.List.{List}
use Prim.Native.Nat.{ℕ, zero, suc, ◌+◌, ◌-◌, ◌*◌, ◌/◌, ◌%◌}
use native.Mathlib.Omega.{arith}
use Rattle.prices.specs.Prices.{price_for}
use Rattle.prices.proofs.Prices.{row-shown, row-raised, second-label, second-other}
use Rattle.prices.proofs.row_prices.Goals as goal

-- the word j asks the bit v of the second cell
asked : (steps : List ℕ) (r j v y : ℕ) → (j / 2 + r / 32) % 2 ≡ v → y ≡ 256 * price_for steps (r / 8 % 4) v → y ≡ 256 * price_for steps (r / 8 % 4) ((j / 2 + r / 32) % 2)
asked steps r j v y e f = f ∙ ap (λ (b : ℕ). 256 * price_for steps (r / 8 % 4) b) (sym e)

pub returns-then-r-eq0 : goal.returns-then-r-eq0
returns-then-r-eq0 c zero h =
    let label-price : c.pick-a.result ≡ 256 * price_for c.args.steps (c.args.r / 8 % 4) (c.args.r / 32) = c.pick-a.ensures ∙ second-label c.args.steps c.args.r c.requires.0 in
    row-shown _ c.requires.1 c.args.r 0 _ c.requires.0 (omega arith) (omega (arith, c.if-r-eq0.true))
    (asked _ c.args.r 0 (c.args.r / 32) _ (omega (arith, c.requires.0)) label-price)
returns-then-r-eq0 c (suc zero) h =
    let label-price : c.pick-a.result ≡ 256 * price_for c.args.steps (c.args.r / 8 % 4) (c.args.r / 32) = c.pick-a.ensures ∙ second-label c.args.steps c.args.r c.requires.0 in
    c.least-c.ensures
    ∙ row-raised _ c.args.r 1 _ c.requires.0 (omega arith) (λ z. omega (arith, c.if-r-eq0.true))
    (asked _ c.args.r 1 (c.args.r / 32) _ (omega (arith, c.requires.0)) label-price)
returns-then-r-eq0 c (suc (suc zero)) h =
    let other-price : c.pick-b.result ≡ 256 * price_for c.args.steps (c.args.r / 8 % 4) (1 - c.args.r / 32) = c.pick-b.ensures ∙ second-other c.args.steps c.args.r c.requires.0 in
    row-shown _ c.requires.1 c.args.r 2 _ c.requires.0 (omega arith) (omega (arith, c.if-r-eq0.true))
    (asked _ c.args.r 2 (1 - c.args.r / 32) _ (omega (arith, c.requires.0)) other-price)
returns-then-r-eq0 c (suc (suc (suc zero))) h =
    let other-price : c.pick-b.result ≡ 256 * price_for c.args.steps (c.args.r / 8 % 4) (1 - c.args.r / 32) = c.pick-b.ensures ∙ second-other c.args.steps c.args.r c.requires.0 in
    c.least-d.ensures
    ∙ row-raised _ c.args.r 3 _ c.requires.0 (omega arith) (λ z. omega (arith, c.if-r-eq0.true))
    (asked _ c.args.r 3 (1 - c.args.r / 32) _ (omega (arith, c.requires.0)) other-price)
returns-then-r-eq0 c (suc (suc (suc (suc j)))) h =
    absurd (let z : ⊥ = omega arith in z)

pub returns-else-r-eq0 : goal.returns-else-r-eq0
returns-else-r-eq0 c zero h =
    let label-price : c.pick-a.result ≡ 256 * price_for c.args.steps (c.args.r / 8 % 4) (c.args.r / 32) = c.pick-a.ensures ∙ second-label c.args.steps c.args.r c.requires.0 in
    c.least-c.ensures
    ∙ row-raised _ c.args.r 0 _ c.requires.0 (omega arith) (λ z. omega (arith, c.if-r-eq0.false))
    (asked _ c.args.r 0 (c.args.r / 32) _ (omega (arith, c.requires.0)) label-price)
returns-else-r-eq0 c (suc zero) h =
    let label-price : c.pick-a.result ≡ 256 * price_for c.args.steps (c.args.r / 8 % 4) (c.args.r / 32) = c.pick-a.ensures ∙ second-label c.args.steps c.args.r c.requires.0 in
    row-shown _ c.requires.1 c.args.r 1 _ c.requires.0 (omega arith) (omega (arith, c.if-r-eq0.false))
    (asked _ c.args.r 1 (c.args.r / 32) _ (omega (arith, c.requires.0)) label-price)
returns-else-r-eq0 c (suc (suc zero)) h =
    let other-price : c.pick-b.result ≡ 256 * price_for c.args.steps (c.args.r / 8 % 4) (1 - c.args.r / 32) = c.pick-b.ensures ∙ second-other c.args.steps c.args.r c.requires.0 in
    c.least-d.ensures
    ∙ row-raised _ c.args.r 2 _ c.requires.0 (omega arith) (λ z. omega (arith, c.if-r-eq0.false))
    (asked _ c.args.r 2 (1 - c.args.r / 32) _ (omega (arith, c.requires.0)) other-price)
returns-else-r-eq0 c (suc (suc (suc zero))) h =
    let other-price : c.pick-b.result ≡ 256 * price_for c.args.steps (c.args.r / 8 % 4) (1 - c.args.r / 32) = c.pick-b.ensures ∙ second-other c.args.steps c.args.r c.requires.0 in
    row-shown _ c.requires.1 c.args.r 3 _ c.requires.0 (omega arith) (omega (arith, c.if-r-eq0.false))
    (asked _ c.args.r 3 (1 - c.args.r / 32) _ (omega (arith, c.requires.0)) other-price)
returns-else-r-eq0 c (suc (suc (suc (suc j)))) h =
    absurd (let z : ⊥ = omega arith in z)
