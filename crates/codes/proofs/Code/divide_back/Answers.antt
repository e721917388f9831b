-- The taps of G1 are 7 with code 3 and 117 with code 7: what undoes either from the last tap back is tested for each eight bits.
use mathlib.Core.Path.{sym, ◌∙◌}
use native.Mathlib.Omega.{arith}
use Rattle.cells.specs.Places.{from_bits}
use Rattle.codes.specs.Generators.{digit}
use Rattle.codes.specs.Taps.{taps_of}
use Rattle.codes.proofs.Divisions.{divided-back-only, unlifted-short, unlifted-long}
use Rattle.codes.proofs.Code.divide_back.Goals as goal

pub returns-in-Short : goal.returns-in-Short
unfolding taps_of from_bits digit
returns-in-Short c =
    rw c.in-Short.is record {
      upper_bound = c.divided_back.ensures.1;
      by_index = λ y h g. divided-back-only 0o7 2 c.args.after c.args.data y (omega arith) (omega arith) unlifted-short (omega arith) h g ∙ sym c.divided_back.ensures.0;
    }

pub returns-in-Long : goal.returns-in-Long
unfolding taps_of from_bits digit
returns-in-Long c =
    rw c.in-Long.is record {
      upper_bound = c.divided_back-in-Long.ensures.1;
      by_index = λ y h g. divided-back-only 0o117 6 c.args.after c.args.data y (omega arith) (omega arith) unlifted-long (omega arith) h g ∙ sym c.divided_back-in-Long.ensures.0;
    }
