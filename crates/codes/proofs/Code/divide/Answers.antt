-- The taps of G1 are 7 with code 3 and 117 with code 7: what undoes either is tested for each eight bits.
use mathlib.Core.Path.{sym, ◌∙◌}
use native.Mathlib.Omega.{arith}
use Rattle.cells.specs.Places.{from_bits}
use Rattle.codes.specs.Generators.{digit}
use Rattle.codes.specs.Taps.{taps_of}
use Rattle.codes.proofs.Divisions.{divided-only, untapped-short, untapped-long}
use Rattle.codes.proofs.Code.divide.Goals as goal

pub returns-in-Short : goal.returns-in-Short
unfolding taps_of from_bits digit
returns-in-Short c =
    rw c.in-Short.is
    record {
      upper_bound = c.divided.ensures.1;
      by_index = λ y h g. divided-only 0o7 c.args.before c.args.data y (omega arith) untapped-short (omega arith) h g ∙ sym c.divided.ensures.0;
    }

pub returns-in-Long : goal.returns-in-Long
unfolding taps_of from_bits digit
returns-in-Long c =
    rw c.in-Long.is
    record {
      upper_bound = c.divided-in-Long.ensures.1;
      by_index = λ y h g. divided-only 0o117 c.args.before c.args.data y (omega arith) untapped-long (omega arith) h g ∙ sym c.divided-in-Long.ensures.0;
    }
