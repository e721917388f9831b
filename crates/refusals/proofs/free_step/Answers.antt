-- The three weights, one after the other.
use mathlib.Core.Logic.{inl, inr}
use borrow.Author.Tests.{eq-eqb, ne_eqb}
use Rattle.cells.specs.Climbs.{weight_of}
use Rattle.refusals.specs.Refusals.{free_step}
use Rattle.refusals.proofs.free_step.Goals as goal
use Rattle.refusals.proofs.free_step.Goals.{then-w1-eq0, else-w1-eq0}

pub returns-then-w2-eq0 : goal.returns-then-w2-eq0
unfolding free_step weight_of
returns-then-w2-eq0 c =
    elim c.if-w1-eq0.branch [
      | then-w1-eq0 w ↦ rw (w.t-13-is, eq-eqb _ 0 w.if-w1-eq0.true)
      | else-w1-eq0 w ↦
          elim c.if-w2-eq0.either [
            | inl e ↦ absurd (w.if-w1-eq0.false e)
            | inr p ↦ simp (w.t-13-is, ne_eqb _ 0 w.if-w1-eq0.false, eq-eqb _ 0 p.1)
          ]
    ]

pub returns-else-w2-eq0 : goal.returns-else-w2-eq0
unfolding free_step weight_of
returns-else-w2-eq0 c = simp (ne_eqb _ 0 c.if-w2-eq0.false.0, ne_eqb _ 0 c.if-w2-eq0.false.1)
