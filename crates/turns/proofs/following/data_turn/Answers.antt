-- The line is in form, or the run stops.
use mathlib.Core.Path.{sym, ◌∙◌}
use Rattle.turns.specs.Turns.{data_turn}
use Rattle.turns.proofs.following.data_turn.Goals as goal

pub returns-then-not-is_data : goal.returns-then-not-is_data
unfolding data_turn
returns-then-not-is_data c =
    let e = sym c.is_data.ensures ∙ c.if-not-is_data.true in
    rw e c.stop_form.ensures

pub returns : goal.returns
unfolding data_turn
returns c =
    let e = sym c.is_data.ensures ∙ c.if-not-is_data.false in
    rw e (record { text_is = c.head.ensures.text_is; near = c.head.ensures.near; run_is = c.at_line.ensures })
