-- The rest is eight bits, and the program takes off and undoes as the definition does.
use mathlib.Core.Path.{◌≡◌, ◌∙◌, ap}
use Prim.Native.Nat.{ℕ, ◌%◌}
use native.Mathlib.Omega.{arith}
use lib.Bits.{bit_xor}
use Rattle.codes.specs.Blocks.{tapped_of, untapped_of, divided_of}
use Rattle.codes.proofs.Divisions.{divided-less}
use Rattle.codes.proofs.blocks.divided.Goals as goal

pub returns : goal.returns
unfolding divided_of untapped_of
returns c =
    let r : c.tapped-4.result ≡ divided_of c.args.taps c.args.before c.args.data =
    c.tapped-4.ensures.0
    ∙ ap (λ (w : ℕ). tapped_of c.args.taps 4 w 7)
    (c.tapped-3.ensures.0
    ∙ ap (λ (w : ℕ). tapped_of c.args.taps 2 w 7)
    (c.tapped-2.ensures.0
    ∙ ap (λ (w : ℕ). tapped_of c.args.taps 1 (bit_xor c.args.data (w % 256)) 7) c.tapped.ensures.0)) in
    (r, omega (arith, divided-less c.args.taps c.args.before c.args.data (omega arith)))
