use mathlib.Core.Path.{◌≡◌, refl, sym, ◌∙◌}
use native.Mathlib.Omega.{arith}
use lib.ListN.{get_or}
use lib.Seq.{ext_get_or, get_or-set_other}
use Rattle.cells.specs.Marks.{marks_in, emptied}
use Rattle.cells.proofs.Places.{store-more}
use Rattle.cells.proofs.Marks.{emptied-length, emptied-byte}
use Rattle.page_erasing.proofs.empty_unmarked.Goals as goal

pub loop-i-preserved : goal.loop-i-preserved
loop-i-preserved c =
    let own : c.kept_byte.result ≡ get_or (emptied (marks_in c.args.map.now) c.args.page.now) c.loop-i.i 0 =
    c.kept_byte.ensures ∙ rw (c.loop-i.invariant.1 c.loop-i.i (omega arith), c.byte.ensures.0)
    (sym (emptied-byte c.args.map.now c.args.page.now c.loop-i.i (omega arith))) in (
      store-more c.loop-i.page c.loop-i.i c.kept_byte.result _ (omega arith) own c.loop-i.invariant.0,
      λ k h. get_or-set_other c.loop-i.page c.loop-i.i k c.kept_byte.result 0 (λ z. omega arith) ∙ c.loop-i.invariant.1 k (omega arith),
    )

pub returns : goal.returns
returns c =
    ext_get_or 0 c.loop-i.page _ (c.loop-i.auto.page ∙ sym (emptied-length (marks_in c.args.map.now) c.args.page.now)) (λ k h. c.loop-i.invariant.0 k (omega arith))
