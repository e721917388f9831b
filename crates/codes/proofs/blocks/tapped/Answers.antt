use mathlib.Core.Path.{◌≡◌, ap}
use Prim.Native.Nat.{ℕ, ◌*◌, ◌/◌, ◌%◌, ◌^◌}
use native.Mathlib.Omega.{arith}
use native.Mathlib.Numerals.{add-one}
use lib.Bits.{bit_xor}
use borrow.Author.Rules.{rules}
use Rattle.codes.specs.Blocks.{tapped_of}
use Rattle.codes.proofs.Divisions.{tapped-less}
use Rattle.codes.proofs.blocks.tapped.Goals as goal

pub loop-i-init : goal.loop-i-init
unfolding tapped_of
loop-i-init c = search rules

pub loop-i-preserved : goal.loop-i-preserved
unfolding tapped_of
loop-i-preserved c =
    rw (add-one c.loop-i.i) (ap (λ (s : ℕ). bit_xor s (c.args.w / 2 ^ (c.args.step * c.loop-i.i) * (c.args.taps / 2 ^ c.loop-i.i % 2))) c.loop-i.invariant)

pub returns : goal.returns
returns c =
    let e : c.loop-i.i ≡ 7 = omega arith in
    let r = rw e at c.loop-i.invariant in
    (r, omega (arith, r, tapped-less 16 c.args.taps c.args.step c.args.w 7 (omega arith)))
