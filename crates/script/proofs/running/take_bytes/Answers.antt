-- The run has stopped; or the bytes belong to one line; or a line ends within them.
use mathlib.Core.Path.{◌∙◌}
use borrow.Author.Tests.{not-true, not-false}
use Rattle.script.proofs.Steps.{stopped-step, part_step, line_step, line-ready}
use Rattle.script.proofs.running.take_bytes.Goals as goal

pub returns-then-not-run-clause-stepped : goal.returns-then-not-run-clause-stepped
returns-then-not-run-clause-stepped c =
    stopped-step c.args.run c.args.bytes.now c.args.line.now c.args.page.now c.args.data.now c.requires c.nothing.ensures.text_is (not-true _ c.if-not-run.true)

pub returns-then-end-bytes : goal.returns-then-end-bytes
returns-then-end-bytes c =
    let both = part_step c.args.run c.args.bytes.now c.args.line.now c.args.page.now c.args.data.now c.requires
    (not-false _ c.if-not-run.false) c.keep_part-used.ensures.kept_part c.keep_part-used.ensures.line_end c.nothing-then-end-bytes.ensures.text_is
    c.if-end-bytes.true in
    record {
      stepped = both.0;
      ready = both.1;
    }

pub returns : goal.returns
returns c =
    record {
      stepped = line_step c.args.run c.args.bytes.now c.args.line.now c.args.page.now c.args.data.now c.requires
          (not-false _ c.if-not-run.false) c.keep_part-used.ensures.kept_part c.keep_part-used.ensures.line_end c.if-end-bytes.false
          c.line_turn-printed.ensures.told c.line_turn-printed.ensures.holds;
      ready = line-ready c.args.run c.args.bytes.now c.args.line.now c.args.page.now c.args.data.now c.requires
          (not-false _ c.if-not-run.false) c.keep_part-used.ensures.kept_part c.keep_part-used.ensures.line_end c.if-end-bytes.false
          c.line_turn-printed.ensures.told c.line_turn-printed.ensures.holds
          (c.line_turn-printed.auto.page ∙ c.requires.page_long) (c.line_turn-printed.auto.data ∙ c.requires.data_long);
    }
