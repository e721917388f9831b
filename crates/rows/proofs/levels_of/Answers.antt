-- The three layers of bits, added up; their sum is 48 bits.
use mathlib.Core.Path.{refl}
use Rattle.rows.specs.Rows.{packed_of}
use Rattle.rows.proofs.Words.{levels-packed}
use Rattle.rows.proofs.levels_of.Goals as goal

pub returns : goal.returns
unfolding packed_of
returns c =
    record {
      value = levels-packed c.args.bits;
      value_2 = refl;
    }
