-- The tests are those of a strip in the page: L within its limits, and k below the number of whole strips.
use mathlib.Core.Path.{◌≡◌, sym, ◌∙◌}
use mathlib.Core.Bool.{true, false, false≢true}
use mathlib.Core.List.{List}
use Prim.Native.Nat.{ℕ, ◌+◌, ◌*◌, ◌-◌, ◌≤◌}
use native.Mathlib.Omega.{arith}
use native.Mathlib.Nat.{add-sub_cancel_left}
use lib.ListN.{length}
use Rattle.codes.proofs.Layouts.{one_bit-bytes}
use Rattle.demand.specs.Jobs.{part}
use Rattle.refusals.specs.Refusals.{one_to_64}
use Rattle.refusals.proofs.Refusals.{limits-in, limits-below, limits-above}
use Rattle.page_parts.specs.Shape.{in_page, Found}
use Rattle.page_parts.proofs.Strips.{part-ends, outside, beyond, strip-none, strip-inside}
use Rattle.page_parts.proofs.find.Goals as goal
use Rattle.page_parts.proofs.find.Goals.{then-bytes-lt1-via-then-bytes-lt1, then-bytes-lt1-via-else-bytes-lt1+then-bytes-gt64}

-- where the strip does not lie in the page, the place is empty, wherever it is
empty : (L k size at : ℕ) → at ≤ size → ((page : List ℕ) → length page ≡ size → in_page L k page ≡ false) → Found L k size (record { start = at; end = at })
empty L k size at h e = record {
  order = omega arith;
  inside = h;
  is_strip = λ page l. let z : at - at ≡ 0 = omega arith in rw z (sym (strip-none L k page (e page l)));
  starts = λ page l i. absurd (false≢true (sym (e page l) ∙ i));
}

pub returns-then-bytes-lt1 : goal.returns-then-bytes-lt1
returns-then-bytes-lt1 c =
    elim c.then-bytes-lt1.branch [
      | then-bytes-lt1-via-then-bytes-lt1 w ↦ empty _ _ _ 0 (omega arith) (λ page e. outside _ _ page (limits-below _ w.if-bytes-lt1.true))
      | then-bytes-lt1-via-else-bytes-lt1+then-bytes-gt64 w ↦
          empty _ _ _ 0 (omega arith) (λ page e. outside _ _ page (limits-above _ w.if-bytes-gt64.true))
    ]

pub returns-then-k-size : goal.returns-then-k-size
returns-then-k-size c =
    let bytes_in : one_to_64 c.args.bytes ≡ true = limits-in _ (omega arith) (omega arith) in
    empty _ _ _ _ (omega arith)
    (λ page e. beyond _ _ page bytes_in (rw (e, one_bit-bytes c.args.bytes) c.if-k-size.true))

pub returns : goal.returns
unfolding part
returns c =
    let bytes_in : one_to_64 c.args.bytes ≡ true = limits-in _ (omega arith) (omega arith) in
    let fit : 6 * c.args.bytes * c.args.k + 6 * c.args.bytes ≤ c.args.size = part-ends _ _ _ c.if-k-size.false in
    record {
      order = omega arith;
      inside = fit;
      is_strip = λ page e.
          rw (
            add-sub_cancel_left (6 * c.args.bytes * c.args.k) (6 * c.args.bytes),
            strip-inside c.args.bytes c.args.k page bytes_in
                (rw (e, one_bit-bytes c.args.bytes) fit),
            one_bit-bytes c.args.bytes,
          );
      starts = λ page e i. rw (one_bit-bytes c.args.bytes);
    }
