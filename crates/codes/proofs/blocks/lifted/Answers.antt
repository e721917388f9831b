use mathlib.Core.Path.{◌≡◌, ap, ap₂, ◌∙◌}
use Prim.Native.Nat.{ℕ, suc, ◌*◌, ◌-◌, ◌/◌, ◌%◌, ◌^◌}
use native.Mathlib.Omega.{arith}
use native.Mathlib.Numerals.{add-one}
use lib.Bits.{bit_xor}
use lib.Pow.{mod-mod-pow}
use borrow.Author.Rules.{rules}
use Rattle.codes.specs.Blocks.{lifted_of}
use Rattle.codes.proofs.Divisions.{lifted-less}
use Rattle.codes.proofs.blocks.lifted.Goals as goal

-- one tap more
more : (taps memory step w i : ℕ) {s : ℕ} → s ≡ lifted_of taps memory step w i
    → bit_xor s ((w * 2 ^ (step * (memory - i))) % 2 ^ 32 % 256 * (taps / 2 ^ i % 2)) ≡ lifted_of taps memory step w (suc i)
unfolding lifted_of
more taps memory step w i h =
    ap₂ (λ (s x : ℕ). bit_xor s (x * (taps / 2 ^ i % 2))) h (mod-mod-pow (w * 2 ^ (step * (memory - i))) 24 8)

pub loop-i-init : goal.loop-i-init
unfolding lifted_of
loop-i-init c = search rules

pub loop-i-preserved : goal.loop-i-preserved
loop-i-preserved c =
    rw (add-one c.loop-i.i) (more c.args.taps c.args.memory c.args.step c.args.w c.loop-i.i c.loop-i.invariant)

pub returns-2 : goal.returns-2
returns-2 c =
    let e : suc c.loop-i.i ≡ suc c.args.memory = omega arith in
    let r = more c.args.taps c.args.memory c.args.step c.args.w c.loop-i.i c.loop-i.invariant
    ∙ ap (lifted_of c.args.taps c.args.memory c.args.step c.args.w) e in
    (r, omega (arith, r, lifted-less c.args.taps c.args.memory c.args.step c.args.w (suc c.args.memory)))
