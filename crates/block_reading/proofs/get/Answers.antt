-- Both judges' answers are their grounds'; with neither, the live page is in order for the read.
use mathlib.Core.Path.{◌≡◌, sym, ◌∙◌}
use mathlib.Core.Option.{none}
use native.Mathlib.Omega.{arith}
use lib.ListN.{length}
use Rattle.refusals.specs.Refusals.{put_ground, live_ground}
use Rattle.refusals.proofs.Refusals.{done_none, sizes-limits}
use Rattle.block_promises.specs.Block.{live_of}
use Rattle.block_reading.proofs.Lent.{judged-fits, judged-there, lent-page, page-ends, page-reads}
use Rattle.block_reading.proofs.get.Goals as goal

pub live_page-live-requires : goal.live_page-live-requires
live_page-live-requires c =
    omega (arith, (judged-fits c.judge_put.ensures c.in_ok-judge_put.was).block-is)

pub page_start-a-requires : goal.page_start-a-requires
page_start-a-requires c = sizes-limits _ _ _ (judged-fits c.judge_put.ensures c.in_ok-judge_put.was).sizes

pub page_size-n-requires : goal.page_size-n-requires
page_size-n-requires c = sizes-limits _ _ _ (judged-fits c.judge_put.ensures c.in_ok-judge_put.was).sizes

pub overflow_add-a : goal.overflow_add-a
overflow_add-a c =
    let there = judged-there c.judge_live.ensures c.in_ok-judge_live.was in
    omega (
      arith,
      page-ends (judged-fits c.judge_put.ensures c.in_ok-judge_put.was) there c.page_start-a.ensures
          c.page_size-n.ensures,
    )

pub slice_bounds-read-end : goal.slice_bounds-read-end
slice_bounds-read-end c =
    let there = judged-there c.judge_live.ensures c.in_ok-judge_live.was in
    omega (
      arith,
      page-ends (judged-fits c.judge_put.ensures c.in_ok-judge_put.was) there c.page_start-a.ensures
          c.page_size-n.ensures,
    )

pub returns : goal.returns
returns c =
    let g = put_ground c.args.code c.args.bytes c.args.strips c.args.pages (length c.args.block.now) (length c.args.data.now) in
    let h = live_ground c.args.pages (live_of c.args.block.now) in
    let in_order : g ≡ none = done_none g (sym c.judge_put.ensures ∙ c.in_ok-judge_put.was) in
    let l = rw c.live_page-live.ensures at c.judge_live.ensures in
    let found : h ≡ none = done_none h (sym l ∙ c.in_ok-judge_live.was) in
    let p = lent-page c.args.bytes c.args.strips (live_of c.args.block.now) c.args.block.now (rw c.live_page-live.ensures at c.page_start-a.ensures)
    c.page_size-n.ensures in
    let q = page-reads c.args.block.now (judged-fits c.judge_put.ensures c.in_ok-judge_put.was) (judged-there l c.in_ok-judge_live.was) in
    let e = rw (p, q) at c.read.ensures in
    record {
      value = rw (in_order, found) e.value;
      data_after = rw (in_order, found) e.data_after;
    }
