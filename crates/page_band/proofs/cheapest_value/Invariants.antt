-- The invariant: what is taken so far is the choice among the first k values.
use mathlib.Core.Path.{◌≡◌}
use Rattle.page_choosing.specs.Picks.{taken}
use Rattle.page_band.proofs.Values.{tried}
use Rattle.page_band.proofs.cheapest_value.Given as goal

abbrev pub invariant-loop-k : goal.invariant-loop-k
invariant-loop-k l = taken l.pick ≡ tried l.code l.page l.value l.band l.k
