use mathlib.Core.Path.{◌≡◌}
use native.Mathlib.Omega.{arith}
use lib.ListN.{length}
use borrow.Author.Rules.{rules}
use Rattle.codes.specs.Taps.{window_of}
use Rattle.codes.proofs.Codes.{proper, memory-bounds}
use Rattle.rows.proofs.Labels.{labels-forth}
use Rattle.trellis.proofs.backward.last_labels.Goals as goal

pub loop-q-init : goal.loop-q-init
unfolding window_of
loop-q-init c = search rules

pub loop-q-preserved : goal.loop-q-preserved
loop-q-preserved c = (
  c.divide-labels.ensures.upper_bound,
  labels-forth (proper c.args.code) (memory-bounds c.args.code.name).1 c.args.data.now c.loop-q.q c.loop-q.invariant.1
      c.data_window.ensures.0
      c.divide-labels.ensures.by_index,
)

pub returns : goal.returns
returns c =
    let e : c.loop-q.q ≡ length c.args.data.now = omega arith in
    (rw e at c.loop-q.invariant.1, c.loop-q.invariant.0)
