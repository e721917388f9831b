-- A call that is judged in order stores what is chosen, any other changes nothing; and both keep the promise.
use mathlib.Core.Path.{◌≡◌, sym, ◌∙◌}
use mathlib.Core.Option.{none}
use lib.ListN.{length}
use Rattle.cells.specs.Raising.{start_of}
use Rattle.refusals.specs.Refusals.{value_ground}
use Rattle.refusals.proofs.Refusals.{done_none, refused-some}
use Rattle.page_promises.proofs.Band.{in-order-band, refused-band, write-band-kept}
use Rattle.page_band.proofs.Values.{sixteen-bits}
use Rattle.page_band.proofs.write_band.Goals as goal

pub returns-in-Ok : goal.returns-in-Ok
returns-in-Ok c =
    let in_order : value_ground c.args.code c.args.band (length c.args.page.now) ≡ none = done_none _ (sym c.judge_value.ensures ∙ c.in-Ok.is) in
    let z = in-order-band start_of c.args.code c.args.page.now c.args.value c.args.band in_order in
    let e = c.store_value.ensures.value ∙ z.0 in
    let p = c.store_value.ensures.page_after ∙ z.1 in
    let kept = write-band-kept c.args.code c.args.page.now c.args.value c.args.band (sixteen-bits c.ranges.value) e p in
    record {
      value = e;
      page_after = p;
      wrote_band = kept.0;
      result_bound = kept.1;
    }

pub returns-in-Err : goal.returns-in-Err
returns-in-Err c =
    let z = refused-band start_of c.args.code c.args.page.now c.args.value c.args.band
    (refused-some _ (sym c.judge_value.ensures ∙ c.in-Err.is)) in
    let kept = write-band-kept c.args.code c.args.page.now c.args.value c.args.band (sixteen-bits c.ranges.value) z.0 z.1 in
    record {
      value = z.0;
      page_after = z.1;
      wrote_band = kept.0;
      result_bound = kept.1;
    }
