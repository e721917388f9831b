-- A line in form is the text of its own values.
use mathlib.Core.Path.{◌≡◌, sym, ◌∙◌, ap}
use mathlib.Core.Bool.{Bool, ◌&&◌}
use Rattle.text.specs.Text.{values_text}
use Rattle.text.specs.Lines.{five_digits}
use Rattle.cells.specs.Places.{same_list}
use Rattle.text.proofs.Lines.{form-by, same_list-pointwise}
use Rattle.text.proofs.parsing.values_of.Goals as goal
use Rattle.text.proofs.parsing.values_of.Goals.{then-five_digits, else-five_digits}

pub returns : goal.returns
returns c =
    let v = c.scan-v.result in
    let line = c.args.line.now in
    let e : c.if-five_digits.in_form ≡ five_digits v && same_list line (values_text v) =
    elim c.if-five_digits.branch [
      | then-five_digits w ↦
          w.in_form-is ∙ w.eq-in_form.ensures ∙ same_list-pointwise line w.text.result.now ∙ ap (same_list line) (w.text.ensures ∙ w.values.ensures.text_is)
          ∙ sym (ap (λ (t : Bool). t && same_list line (values_text v)) (sym c.five_digits.ensures ∙ w.if-five_digits.true))
      | else-five_digits w ↦
          w.in_form-is ∙ w.if-five_digits.false
          ∙ sym (ap (λ (t : Bool). t && same_list line (values_text v)) (sym c.five_digits.ensures ∙ w.if-five_digits.false))
    ] in
    c.then_some.ensures ∙ form-by line c.scan-v.ensures e
