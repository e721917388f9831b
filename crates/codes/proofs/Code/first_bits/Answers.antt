-- The taps of G1 are 7 with code 3 and 117 with code 7: 171 from the other end.
use mathlib.Core.Path.{◌∙◌, ap}
use Prim.Native.Nat.{ℕ, ◌/◌, ◌%◌, ◌^◌}
use native.Mathlib.Omega.{arith}
use Rattle.cells.specs.Places.{from_bits}
use Rattle.codes.specs.Generators.{digit}
use Rattle.codes.specs.Taps.{taps_of}
use Rattle.codes.proofs.Divisions.{tapped-bit}
use Rattle.codes.proofs.Code.first_bits.Goals as goal

pub returns-in-Short : goal.returns-in-Short
unfolding taps_of from_bits digit
returns-in-Short c =
    rw c.in-Short.is record {
      upper_bound = c.tapped.ensures.1;
      by_index = λ p. ap (λ (x : ℕ). x / 2 ^ p % 2) c.tapped.ensures.0 ∙ tapped-bit 0o7 c.args.window p (omega arith);
    }

pub returns-in-Long : goal.returns-in-Long
unfolding taps_of from_bits digit
returns-in-Long c =
    rw c.in-Long.is record {
      upper_bound = c.tapped-in-Long.ensures.1;
      by_index = λ p. ap (λ (x : ℕ). x / 2 ^ p % 2) c.tapped-in-Long.ensures.0 ∙ tapped-bit 0o117 c.args.window p (omega arith);
    }
