-- The line is past the last one, not in form, or a write.
use mathlib.Core.Path.{refl, sym, ◌∙◌}
use mathlib.Core.Bool.{and-false}
use Prim.Native.Nat.{◌<◌}
use native.Mathlib.Omega.{arith}
use borrow.Author.Tests.{le-leb, lt-leb}
use Rattle.text.proofs.Hex.{data-decoded}
use Rattle.turns.specs.Turns.{write_turn}
use Rattle.turns.proofs.following.write_turn.Goals as goal
use Rattle.turns.proofs.following.write_turn.Goals.{then-number-gt1003-via-then-number-gt1003, then-number-gt1003-via-else-number-gt1003+then-not-decode}

pub returns-then-number-gt1003-clause-told_page : goal.returns-then-number-gt1003-clause-told_page
unfolding write_turn
returns-then-number-gt1003-clause-told_page c = elim c.then-number-gt1003.branch [
  | then-number-gt1003-via-then-number-gt1003 w ↦
      let h : 1003 < c.args.number = omega (arith, w.if-number-gt1003.true) in
      rw (lt-leb _ 1003 h) (record { told = c.stop_form.ensures; page_is = refl })
  | then-number-gt1003-via-else-number-gt1003+then-not-decode w ↦
      let e = sym w.decode.ensures.value ∙ w.if-not-decode.true in
      rw (e, and-false) (record { told = c.stop_form.ensures; page_is = refl })
]

pub returns-clause-told_page : goal.returns-clause-told_page
unfolding write_turn
returns-clause-told_page c =
    let g = sym c.decode.ensures.value ∙ c.if-not-decode.false in
    let l = le-leb _ 1003 c.if-number-gt1003.false in
    rw (l, g, ← data-decoded _ _ g, ← c.decode.ensures.data_after) (record {
      told = record { text_is = c.write_row-printed.ensures.row; near = c.write_row-printed.ensures.near; run_is = c.at_line.ensures };
      page_is = c.write_row-printed.ensures.page_after;
    })
