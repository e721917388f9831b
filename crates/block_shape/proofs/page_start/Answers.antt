-- Behind the directory and k pages, which fits, as a page has at most 24,576 bytes.
use mathlib.Core.Path.{◌≡◌}
use mathlib.Core.Option.{none}
use Prim.Native.Nat.{ℕ, ◌*◌, ◌≤◌}
use native.Mathlib.Omega.{arith}
use native.Mathlib.Nat.{mul-le-mul}
use Rattle.refusals.specs.Refusals.{limits_ground, page_bytes}
use Rattle.refusals.proofs.Refusals.{page-most}
use Rattle.block_shape.proofs.page_start.Goals as goal

pages-most : (L S k : ℕ) {n : ℕ} → n ≡ page_bytes L S → limits_ground L S ≡ none → n * k ≤ 24576 * k
pages-most L S k {n} e limits = mul-le-mul {n₁ = n} {m₁ = k} {n₂ = 24576} {m₂ = k} (rw e (page-most L S limits)) (omega arith)

pub overflow_mul-result : goal.overflow_mul-result
overflow_mul-result c = omega (arith, pages-most c.args.bytes c.args.strips c.args.k c.page_size.ensures c.requires)

pub overflow_add-result : goal.overflow_add-result
overflow_add-result c = omega (arith, pages-most c.args.bytes c.args.strips c.args.k c.page_size.ensures c.requires)
