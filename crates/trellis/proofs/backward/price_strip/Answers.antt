use mathlib.Core.Path.{◌≡◌, ◌∙◌}
use Prim.Native.Nat.{ℕ, ◌<◌, ◌+◌, ◌-◌}
use native.Mathlib.Omega.{arith}
use lib.ListN.{length, get_or}
use Rattle.cells.specs.Marks.{marks_in}
use Rattle.codes.specs.Codes.{generators_of}
use Rattle.codes.proofs.Codes.{proper}
use Rattle.codes.proofs.Layouts.{one_bit-bytes}
use Rattle.stage_blocks.proofs.Runs.{ran_le}
use Rattle.trellis.proofs.Ways.{suits, BlocksDecoded, blocks_last, blocks_more, blocks-first, block-quoted}
use Rattle.trellis.proofs.backward.price_strip.Goals as goal

pub loop-q-init : goal.loop-q-init
loop-q-init c =
    blocks_last (generators_of c.args.code) c.args.rows.now c.args.strip.now (marks_in c.args.map.now) c.args.data.now
    c.last_labels-labels.ensures.0

pub picks_at-picks-requires : goal.picks_at-picks-requires
picks_at-picks-requires c =
    (omega (arith, c.loop-q.invariant.within, c.requires.size, one_bit-bytes (length c.args.data.now)), omega (arith, c.loop-q.invariant.within, c.requires.most))

pub settle-requires : goal.settle-requires
settle-requires c = (
  c.states-states.ensures.1,
  c.run.ensures.size,
  ran_le
      c.run.ensures c.loop-q.invariant.cut c.requires.cut,
)

pub loop-q-preserved : goal.loop-q-preserved
loop-q-preserved c =
    let q : ℕ = c.loop-q.q - 1 in
    let e : q + 1 ≡ c.loop-q.q = omega arith in
    let G = generators_of c.args.code in
    let marks = marks_in c.args.map.now in
    let h : BlocksDecoded G c.args.rows.now c.args.strip.now marks c.args.data.now (q + 1) c.loop-q.labels c.loop-q.costs = rw e c.loop-q.invariant in
    let octets : (i : ℕ) → get_or c.args.strip.now i 0 < 256 = λ i. omega (arith, c.type_inv.strip i) in
    let map-octets : (i : ℕ) → get_or c.args.map.now i 0 < 256 = λ i. omega (arith, c.type_inv.map i) in
    blocks_more G c.args.rows.now c.args.strip.now marks c.args.data.now (proper c.args.code) q _ c.requires.most (omega
    (arith, c.loop-q.invariant.within)) h
    (block-quoted G c.args.map.now q _ octets map-octets h c.picks_at-picks.ensures)
    c.run.ensures
    c.labels_before-labels.ensures.0
    (rw c.states-states.ensures.0 at c.settle.ensures.settled)

pub returns : goal.returns
returns c =
    λ W P.
    let z : c.loop-q.q ≡ 0 = omega arith in
    c.outcome.ensures ∙ blocks-first c.requires.most (rw z at c.loop-q.invariant) W (suits c.args.code W P.weights) P
