-- 6·L·S, which fits, as L and S are within their limits.
use mathlib.Core.Path.{refl}
use native.Mathlib.Omega.{arith}
use Rattle.codes.proofs.Layouts.{one_bit-bytes}
use Rattle.refusals.proofs.Refusals.{page-most}
use Rattle.block_shape.proofs.page_size.Goals as goal

pub overflow_mul-result-2 : goal.overflow_mul-result-2
overflow_mul-result-2 c =
    omega (arith, rw (one_bit-bytes c.args.bytes) at (page-most c.args.bytes c.args.strips c.requires))

pub returns : goal.returns
returns c = rw (one_bit-bytes c.args.bytes) refl
