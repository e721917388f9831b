use mathlib.Core.Path.{◌≡◌, refl, ◌∙◌}
use Prim.Native.Nat.{ℕ, ◌<◌, ◌+◌, ◌*◌, ◌-◌, ◌/◌, ◌%◌, ◌^◌}
use native.Mathlib.Omega.{arith}
use lib.ListN.{length, get_or, length-set}
use lib.Seq.{get_or-set_other}
use Rattle.cells.specs.Levels.{level}
use Rattle.cells.specs.Marks.{marks_in}
use Rattle.codes.specs.Codes.{generators_of}
use Rattle.codes.specs.Taps.{window_of, first_bit}
use Rattle.codes.proofs.Codes.{proper}
use Rattle.codes.proofs.Layouts.{one_bit-bytes}
use Rattle.codes.proofs.Taps.{window-less}
use Rattle.stage_blocks.proofs.Runs.{ran_le}
use Rattle.trellis.proofs.Ways.{suits, BlocksDecoded, blocks_last, block-decoded, blocks_more, blocks-first, block-quoted}
use Rattle.trellis.proofs.Ways.{traced-more, block-lows, store-back}
use Rattle.trellis.proofs.backward.decide.Goals as goal

pub loop-q-init : goal.loop-q-init
loop-q-init c = (
  blocks_last (generators_of c.args.code) c.args.rows.now c.args.strip.now (marks_in c.args.map.now) c.args.data.now
      c.last_labels-labels.ensures.0,
  record { size = c.requires.history_len.0; trails = λ W P k h l. absurd (let z : ⊥ = omega arith in z) },
  c.requires.history_len.1,
  (λ k h l. absurd (let z : ⊥ = omega arith in z)),
  record { others = λ k h. refl },
  record { others = λ k h. refl },
)

pub picks_at-picks-requires : goal.picks_at-picks-requires
picks_at-picks-requires c =
    (omega (arith, c.loop-q.invariant.0.within, c.requires.shaped.size, one_bit-bytes (length c.args.data.now)), omega (arith, c.loop-q.invariant.0.within, c.requires.shaped.most))

pub overflow_cast-lows : goal.overflow_cast-lows
overflow_cast-lows c =
    record {
      fits = omega (
        arith,
        c.window.ensures,
        window-less 8 (λ (i : ℕ). c.picks_at-picks.result / 2 ^
            (8 * i) % 2) 8,
      );
    }

pub settle-requires : goal.settle-requires
settle-requires c = (
  c.states-states.ensures.1,
  c.run.ensures.size,
  ran_le c.run.ensures c.loop-q.invariant.0.cut
      c.requires.shaped.cut,
)

pub loop-q-preserved : goal.loop-q-preserved
loop-q-preserved c =
    let G = generators_of c.args.code in
    let marks = marks_in c.args.map.now in
    let q : ℕ = c.loop-q.q - 1 in
    let e : q + 1 ≡ c.loop-q.q = omega arith in
    let near : q < length c.args.data.now = omega (arith, c.loop-q.invariant.0.within) in
    let h : BlocksDecoded G c.args.rows.now c.args.strip.now marks c.args.data.now (q + 1) c.loop-q.labels c.loop-q.costs = rw e c.loop-q.invariant.0 in
    let octets : (i : ℕ) → get_or c.args.strip.now i 0 < 256 = λ i. omega (arith, c.type_inv.strip i) in
    let map-octets : (i : ℕ) → get_or c.args.map.now i 0 < 256 = λ i. omega (arith, c.type_inv.map i) in
    let quoted = block-quoted G c.args.map.now q _ octets map-octets h c.picks_at-picks.ensures in
    let low = block-lows c.args.strip.now c.args.map.now q _ c.loop-q.labels octets map-octets c.picks_at-picks.ensures
    c.window.ensures in (
      blocks_more G c.args.rows.now c.args.strip.now marks c.args.data.now (proper c.args.code) q _ c.requires.shaped.most near h quoted c.run.ensures
          c.labels_before-labels.ensures.0 (rw c.states-states.ensures.0 at c.settle.ensures.settled),
      traced-more G q (omega arith) (rw e c.loop-q.invariant.1) (rw c.states-states.ensures.0 at c.keep.ensures)
          (block-decoded G c.args.rows.now c.args.strip.now marks c.args.data.now (proper c.args.code) q _ c.requires.shaped.most near h quoted
          c.run.ensures),
      simp length-set c.loop-q.invariant.2,
      store-back c.loop-q.lows (length c.args.data.now) q _ (λ k'. window_of 8 (first_bit (level c.args.strip.now)) (8 * (k' + 1)))
          (omega (arith, c.loop-q.invariant.2, c.requires.shaped.most)) low (λ k' m n. c.loop-q.invariant.3 k' (omega arith) n),
      record { others = λ k' m. c.keep.ensures.after k' (omega (arith, c.states-states.ensures.1)) ∙ c.loop-q.invariant.4.others k' m },
      record { others = λ k' m. get_or-set_other c.loop-q.lows q k' _ 0 (λ z. omega arith) ∙ c.loop-q.invariant.5.others k' m },
    )

pub returns : goal.returns
returns c =
    let z : c.loop-q.q ≡ 0 = omega arith in
    record {
      by_index = λ W P. c.outcome.ensures ∙ blocks-first c.requires.shaped.most (rw z at c.loop-q.invariant.0) W (suits c.args.code W P.weights) P;
      by_index_2 = λ W P. record { trails = λ k h. c.loop-q.invariant.1.trails W P k (omega arith) h };
      untouched = c.loop-q.invariant.4;
      lows = record { shown = λ k h. c.loop-q.invariant.3 k (omega arith) h };
      untouched_2 = c.loop-q.invariant.5;
    }
