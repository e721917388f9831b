-- The values are in form and in order, or the run stops.
use mathlib.Core.Path.{sym, ◌∙◌}
use mathlib.Core.List.{[]}
use Rattle.turns.specs.Turns.{at_line}
use Rattle.turns.proofs.Turns.{values-broken, values-given, values-refused}
use Rattle.turns.proofs.following.values_turn.Goals as goal

pub returns-in_default : goal.returns-in_default
returns-in_default c =
    rw (values-broken (at_line 2 c.args.v []) c.args.line.now (sym c.values_of.ensures ∙ c.in_default.is)) c.stop_form.ensures

pub returns-in-Err : goal.returns-in-Err
returns-in-Err c =
    let e =
    values-refused (at_line 2 c.args.v []) c.args.line.now (sym c.values_of.ensures ∙ c.in-Some.is) c.judge_sizes.ensures
    c.in-Err.is in
    rw (e, ← c.refusal_number.ensures, ← c.from.ensures) c.stop.ensures

pub returns-in-Ok : goal.returns-in-Ok
returns-in-Ok c =
    let e =
    values-given (at_line 2 c.args.v []) c.args.line.now (sym c.values_of.ensures ∙ c.in-Some.is) c.judge_sizes.ensures
    c.in-Ok.is in
    rw e (record { text_is = c.nothing.ensures.text_is; near = c.nothing.ensures.near; run_is = c.at_line.ensures })
