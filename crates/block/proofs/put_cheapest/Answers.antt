-- The page chosen is one of the block.
use mathlib.Core.Path.{sym, ◌∙◌, ap}
use Rattle.page_choosing.specs.Picks.{taken}
use Rattle.block.proofs.Puts.{chosen-there}
use Rattle.block.proofs.put_cheapest.Goals as goal

pub write_page-requires-clause-k_lt_pages : goal.write_page-requires-clause-k_lt_pages
write_page-requires-clause-k_lt_pages c = chosen-there c.args.code c.args.bytes c.args.strips c.args.pages c.args.block.now c.args.data.now (sym c.cheapest_page.ensures ∙ ap taken c.in-Some.is)
