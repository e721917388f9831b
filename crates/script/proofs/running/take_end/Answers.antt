-- The run has stopped; or lines 1 to 3 are there and no other is begun; or a line is missing or not ended.
use mathlib.Core.Path.{sym, ◌∙◌}
use borrow.Author.Tests.{not-true, not-false, ltb-true, ltb-false, eqb-true}
use Rattle.script.proofs.Steps.{end-stopped, end_whole, end-missing, end-open}
use Rattle.script.proofs.running.take_end.Goals as goal
use Rattle.script.proofs.running.take_end.Goals.{then-not-run-via-then-not-run, then-not-run-via-else-not-run+then-whole}
use Rattle.script.proofs.running.take_end.Goals.{then-run-eq0, else-run-eq0}

pub returns-then-not-run-clause-by_index : goal.returns-then-not-run-clause-by_index
returns-then-not-run-clause-by_index c = λ line page h. c.nothing.ensures.text_is ∙ sym (elim c.then-not-run.branch [
  | then-not-run-via-then-not-run w ↦ end-stopped c.args.run line page (not-true _ w.if-not-run.true)
  | then-not-run-via-else-not-run+then-whole w ↦ elim c.if-run-eq0.branch [
    | then-run-eq0 t ↦
        end_whole c.args.run line page (not-false _ w.if-not-run.false) t.if-run-eq0.true (ltb-true 3 c.args.run.number (sym t.whole-is ∙ w.if-whole.true))
    | else-run-eq0 t ↦ absurd (t.if-run-eq0.false (eqb-true c.args.run.used 0 (sym t.whole-is ∙ w.if-whole.true)))
  ]
])

pub returns-clause-by_index : goal.returns-clause-by_index
returns-clause-by_index c = λ line page h. c.stop_form.ensures.text_is ∙ sym (elim c.if-run-eq0.branch [
  | then-run-eq0 t ↦
      end-missing c.args.run line page (not-false _ c.if-not-run.false) t.if-run-eq0.true (ltb-false 3 c.args.run.number (sym t.whole-is ∙ c.if-whole.false))
  | else-run-eq0 t ↦ end-open c.args.run line page (not-false _ c.if-not-run.false) h t.if-run-eq0.false
])
