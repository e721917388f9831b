-- The line is in form, or the run stops.
use mathlib.Core.Path.{sym, ◌∙◌}
use Rattle.turns.specs.Turns.{names_turn}
use Rattle.turns.proofs.following.names_turn.Goals as goal

pub returns-then-not-is_names : goal.returns-then-not-is_names
unfolding names_turn
returns-then-not-is_names c =
    let e = sym c.is_names.ensures ∙ c.if-not-is_names.true in
    rw e c.stop_form.ensures

pub returns : goal.returns
unfolding names_turn
returns c =
    let e = sym c.is_names.ensures ∙ c.if-not-is_names.false in
    rw e (record { text_is = c.nothing.ensures.text_is; near = c.nothing.ensures.near; run_is = c.at_line.ensures })
