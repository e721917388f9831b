-- The values are in order, or the size is 0.
use mathlib.Core.Path.{◌≡◌, sym, ◌∙◌}
use mathlib.Core.Option.{none}
use native.Mathlib.Omega.{arith}
use Rattle.refusals.specs.Refusals.{sizes_ground}
use Rattle.refusals.proofs.Refusals.{done_none, refused-some}
use Rattle.turn_rows.proofs.Rows.{in-limits, size-given, size-refused}
use Rattle.turn_rows.proofs.size.Goals as goal

pub overflow_mul-result : goal.overflow_mul-result
overflow_mul-result c =
    let unrefused : sizes_ground c.args.v.code c.args.v.bytes c.args.v.strips ≡ none = done_none _ (sym c.judge_sizes.ensures ∙ c.in-Ok.is) in
    omega (arith, in-limits _ unrefused)

pub returns-in-Ok : goal.returns-in-Ok
returns-in-Ok c =
    let unrefused : sizes_ground c.args.v.code c.args.v.bytes c.args.v.strips ≡ none = done_none _ (sym c.judge_sizes.ensures ∙ c.in-Ok.is) in
    (in-limits _ unrefused, sym (size-given _ unrefused))

pub returns-in-Err : goal.returns-in-Err
returns-in-Err c =
    (omega arith, sym (size-refused _ (refused-some _ (sym c.judge_sizes.ensures ∙ c.in-Err.is))))
