-- The rest is eight bits, and the program takes off and undoes as the definition does.
use mathlib.Core.Path.{◌≡◌, ◌∙◌, ap}
use Prim.Native.Nat.{ℕ, suc, ◌<◌, ◌-◌, ◌/◌, ◌%◌, ◌^◌}
use native.Mathlib.Omega.{arith}
use lib.Bits.{bit_xor, xor_lt}
use lib.Pow.{shr_le}
use Rattle.codes.specs.Blocks.{lifted_of, unlifted_of, divided_back_of}
use Rattle.codes.proofs.Divisions.{tapped-less}
use Rattle.codes.proofs.blocks.divided_back.Goals as goal

pub lifted-requires : goal.lifted-requires
lifted-requires c =
    let d = c.args.data / 2 ^ (8 - c.args.memory) in
    let h : d % 256 < 256 = omega arith in
    let k : c.tapped.result < 256 = omega (arith, c.tapped.ensures.0, tapped-less 8 c.args.taps 1 c.args.after 7 (omega arith)) in
    (omega arith, omega arith, xor_lt 8 (d % 256) (c.tapped.result / 2 ^ (8 - c.args.memory)) h (omega (arith, shr_le c.tapped.result (8 - c.args.memory))))

pub returns : goal.returns
unfolding divided_back_of unlifted_of
returns c =
    let rest : ℕ → ℕ = λ t. bit_xor (c.args.data / 2 ^ (8 - c.args.memory) % 256) (t / 2 ^ (8 - c.args.memory)) in
    let r : c.lifted-3.result ≡ divided_back_of c.args.taps c.args.memory c.args.after c.args.data =
    c.lifted-3.ensures.0
    ∙ ap (λ (w : ℕ). lifted_of c.args.taps c.args.memory 4 w (suc c.args.memory))
    (c.lifted-2.ensures.0
    ∙ ap (λ (w : ℕ). lifted_of c.args.taps c.args.memory 2 w (suc c.args.memory))
    (c.lifted.ensures.0 ∙ ap (λ (t : ℕ). lifted_of c.args.taps c.args.memory 1 (rest t) (suc c.args.memory)) c.tapped.ensures.0)) in
    (r, c.lifted-3.ensures.1)
