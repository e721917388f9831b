use mathlib.Core.Path.{◌≡◌, sym, ap, ◌∙◌}
use Prim.Native.Nat.{◌+◌, ◌*◌, ◌≤◌}
use native.Mathlib.Omega.{arith}
use lib.ListN.{length}
use Rattle.codes.specs.Layouts.{one_bit, byte_count}
use Rattle.codes.proofs.Layouts.{one_bit-bytes}
use Rattle.demand.proofs.Jobs.{part_length}
use Rattle.page_parts.proofs.Strips.{lent_length}
use Rattle.refusals.proofs.Refusals.{one-to-64}
use Rattle.page_rewriting.proofs.Loops.{job-sized, strip-fits, part-fits, carried-nothing, carried-more}
use Rattle.page_rewriting.proofs.Job.carry_strips.Goals.{In-loop-k}
use Rattle.page_rewriting.proofs.Job.carry_strips.Goals as goal

pub overflow_mul-n : goal.overflow_mul-n
overflow_mul-n c = omega (arith, one-to-64 c.args.self.now.bytes c.args.self.now.bytes_in)

pub loop-k-init : goal.loop-k-init
loop-k-init c = carried-nothing

-- strip k lies within the page
fit : (c : In-loop-k) → 6 * c.args.self.now.bytes * c.loop-k.k + 6 * c.args.self.now.bytes ≤ length c.loop-k.page
fit c = omega (arith, rw (one_bit-bytes c.args.self.now.bytes) at (strip-fits (job-sized c.args.self.now c.requires.page_is) c.loop-k-test.true), c.loop-k.invariant.size)

pub overflow_mul-a : goal.overflow_mul-a
overflow_mul-a c = omega (arith, fit c)

pub overflow_add-a : goal.overflow_add-a
overflow_add-a c = omega (arith, fit (goal.at.overflow_add-a c).In-loop-k)

pub slice_bounds-carry_strip-end : goal.slice_bounds-carry_strip-end
slice_bounds-carry_strip-end c = omega (arith, fit (goal.at.slice_bounds-carry_strip-end c).In-loop-k)

pub data_part-requires : goal.data_part-requires
data_part-requires c = omega (arith, part-fits (job-sized c.args.self.now c.requires.page_is) c.loop-k-test.true)

pub data_part-requires-in-loop-k : goal.data_part-requires-in-loop-k
data_part-requires-in-loop-k c = omega (arith, part-fits (job-sized c.args.self.now c.requires.page_is) c.loop-k-test.true, c.args.self.now.data_is, c.requires.digits_len)

pub carry_strip-requires : goal.carry_strip-requires
carry_strip-requires c =
    let inside = fit (goal.at.carry_strip-requires c).In-loop-k in
    let bytes-given : length c.data_part.result.now ≡ c.args.self.now.bytes =
    rw c.data_part.ensures (part_length c.args.self.now.bytes c.args.self.now.strips _ c.args.self.now.«data».now c.args.self.now.data_is (omega (arith, c.loop-k-test.true))) in
    let digits-given : length c.data_part-in-loop-k.result.now ≡ c.args.self.now.bytes =
    rw c.data_part-in-loop-k.ensures (part_length c.args.self.now.bytes c.args.self.now.strips _ c.args.digits.now c.requires.digits_len (omega (arith, c.loop-k-test.true))) in
    record {
      digits_are = digits-given ∙ sym bytes-given;
      most = omega (arith, bytes-given, one-to-64 c.args.self.now.bytes c.args.self.now.bytes_in);
      size = lent_length (6 * c.args.self.now.bytes) _ c.loop-k.page (omega (arith, inside)) ∙ sym (one_bit-bytes c.args.self.now.bytes) ∙ ap (byte_count one_bit) (sym bytes-given);
    }

pub loop-k-preserved : goal.loop-k-preserved
loop-k-preserved c =
    carried-more c.loop-k.invariant (sym (one_bit-bytes c.args.self.now.bytes))
    c.requires.page_is c.loop-k-test.true c.data_part.ensures c.data_part-in-loop-k.ensures c.carry_strip.ensures

pub returns : goal.returns
returns c =
    record { same_size = c.loop-k.invariant.size; carried = λ j h. c.loop-k.invariant.so_far j (omega (arith, c.loop-k-test.false)) }
