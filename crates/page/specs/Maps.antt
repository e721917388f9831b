-- The map that a call is given.
--   map_of   the bytes of a call's map, where it has one
use Rattle.std.specs.Prelude.{List, ℕ}
use Rattle.std.specs.Borrow.{Bor}
use Rattle.std.proofs.Math.Option.{Option, none, some}
use Rattle.std.specs.declared.option.Option as Program
use Rattle.std.specs.declared.option.Option.TheVariants as Given

-- the bytes of a call's map, where it has one
abbrev pub map_of : Program.Option (Bor (List ℕ)) → Option (List ℕ)
map_of Given.None = none
map_of (Given.Some map) = some map.now
