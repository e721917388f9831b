use mathlib.Core.Path.{◌≡◌, refl, sym}
use native.Mathlib.Omega.{arith}
use native.Mathlib.Nat.{not-suc-le-zero}
use lib.ListN.{length}
use Rattle.codes.specs.Codes.{generators_of}
use Rattle.codes.specs.Taps.{window_of}
use Rattle.cells.proofs.Places.{store-more}
use Rattle.codes.proofs.Codes.{memory-bounds}
use Rattle.codes.proofs.Layouts.{one_bit-cells, one_bit-bytes, one_bit-map}
use Rattle.codes.proofs.Taps.{read-bytes}
use Rattle.codes.proofs.Code.read_strip.Goals as goal

pub loop-q-init : goal.loop-q-init
unfolding window_of
loop-q-init c =
    (record { first_is = refl; second_is = refl }, λ k h. absurd (not-suc-le-zero h))

pub loop-q-preserved : goal.loop-q-preserved
loop-q-preserved c = (
  c.read_byte-r.ensures.windows_before,
  store-more c.loop-q.data c.loop-q.q c.read_byte-r.result.byte _ (omega arith) c.read_byte-r.ensures.byte_value c.loop-q.invariant.1,
)

pub returns : goal.returns
returns c =
    let m = (memory-bounds c.args.self.name).1 in
    let e : c.loop-q.q ≡ length c.args.data.now = omega arith in
    record {
      data_after = read-bytes (generators_of c.args.self) _ c.args.strip.now c.loop-q.data m (omega arith)
          (λ k h. rw (c.g1_taps-g1.ensures.0, c.g2_taps-g2.ensures.0) at (c.loop-q.invariant.1 k (omega arith)));
      strip_bytes_value = (sym (one_bit-bytes 1), sym (one_bit-cells 1));
      map_bytes_value = sym (one_bit-map 1);
    }
