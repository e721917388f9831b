-- The invariant: the values of the line are those of what is left of it, from the values so far.
use mathlib.Core.Path.{◌≡◌}
use lib.ListN.{drop}
use Rattle.text.specs.Lines.{no_values, scan_of}
use Rattle.text.proofs.parsing.scan.Given as goal

abbrev pub invariant-loop-c : goal.invariant-loop-c
invariant-loop-c l = scan_of no_values l.line ≡ scan_of l.v (drop l.c-index l.line)
