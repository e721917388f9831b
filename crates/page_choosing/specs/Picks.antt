-- What a pick stands for.
--   taken   the offer that is taken, or none
use Rattle.std.proofs.Math.Option.{Option, none, some}
use Rattle.std.specs.declared.option.Option as Program
use Rattle.std.specs.declared.option.Option.TheVariants as Given
use Rattle.demand.specs.Offers.{Offer}
use Rattle.page_choosing.specs.declared.Pick.{Pick}

-- the offer that is taken, or none
abbrev pub taken : Program.Option Pick → Option Offer
taken Given.None = none
taken (Given.Some pick) = some (record { number = pick.number; rank = pick.rank; cost = pick.cost })
