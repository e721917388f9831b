-- The invariant: what is taken so far is the choice among the first k pages.
use mathlib.Core.Path.{◌≡◌}
use Rattle.page_choosing.specs.Picks.{taken}
use Rattle.block.proofs.Puts.{tried_pages}
use Rattle.block.proofs.cheapest_page.Given as goal

abbrev pub invariant-loop-k : goal.invariant-loop-k
invariant-loop-k l = taken l.pick ≡ tried_pages l.code l.bytes l.strips l.pages l.block l.data l.k
