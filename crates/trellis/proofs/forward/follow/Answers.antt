use mathlib.Core.Path.{◌≡◌, refl, ap}
use Prim.Native.Nat.{ℕ, ◌+◌, ◌*◌, ◌%◌}
use native.Mathlib.Omega.{arith}
use lib.Bits.{xor_lt}
use lib.ListN.{length, get_or}
use Rattle.cells.proofs.Places.{store-more}
use Rattle.codes.specs.Codes.{generators_of}
use Rattle.codes.specs.Taps.{window_of}
use Rattle.codes.proofs.Codes.{memory-bounds}
use Rattle.trellis.specs.Ways.{Followed}
use Rattle.trellis.proofs.Followed.{state-place, followed-step}
use Rattle.trellis.proofs.forward.follow.Goals as goal

pub loop-q-init : goal.loop-q-init
unfolding window_of
loop-q-init c =
    (omega arith, λ u f. refl, λ u f k h. absurd (let z : ⊥ = omega arith in z))

pub nonzero_rem-trail : goal.nonzero_rem-trail
nonzero_rem-trail c = (state-place _ c.states-states.ensures).0

pub divide-before-requires : goal.divide-before-requires
divide-before-requires c =
    (c.loop-q.invariant.0, rw c.from.ensures (xor_lt 8 _ _ (c.fits-history _) (c.fits-lows _)))

pub loop-q-preserved : goal.loop-q-preserved
loop-q-preserved c =
    let G = generators_of c.args.code in
    let place = ap (λ (s : ℕ). get_or c.args.history.now (64 * c.loop-q.q + c.loop-q.before % s) 0) c.states-states.ensures.0 in
    let step : (u : ℕ → ℕ) → Followed G c.args.lows.now c.args.history.now (length c.args.digits.now) u
    → c.divide-before.result ≡ window_of 8 u (8 * (c.loop-q.q + 1)) =
    λ u f. followed-step G (memory-bounds c.args.code.name).1 u f c.loop-q.q c.loop-q-test.true (c.loop-q.invariant.1 u f) place refl
    (rw c.from.ensures at c.divide-before.ensures.by_index) in (
      c.divide-before.ensures.upper_bound,
      step,
      λ u f. store-more c.loop-q.digits c.loop-q.q c.divide-before.result (λ k. window_of 8 u (8 * (k + 1)))
          (omega (arith, c.loop-q-test.true, c.loop-q.auto.digits)) (step u f) (c.loop-q.invariant.2 u f),
    )

pub returns : goal.returns
returns c =
    record {
      free = record { size = c.loop-q.auto.digits };
      by_index = λ u f k h. c.loop-q.invariant.2 u f k (omega (arith, c.loop-q-test.false));
    }
