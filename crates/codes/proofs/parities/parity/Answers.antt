-- The parity is its definition, and a remainder by 2 is below 2.
use mathlib.Core.Path.{refl}
use native.Mathlib.Omega.{arith}
use Rattle.codes.specs.Taps.{parity_of}
use Rattle.codes.proofs.parities.parity.Goals as goal

pub returns : goal.returns
unfolding parity_of
returns c = (refl, omega arith)
