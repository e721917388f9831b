-- A list that is judged in order answers and leaves the page as its datas do, any other changes nothing; and both keep the promise.
use mathlib.Core.Path.{◌∙◌}
use mathlib.Core.Option.{some}
use mir.Syntax.{w8}
use borrow.Author.Rules.{elem_Fits}
use Rattle.refusals.proofs.Refusals.{weighted-in-order, count-in-order}
use Rattle.page_parts.proofs.Strips.{listed_by}
use Rattle.page_promises.proofs.Promise.{dear-by}
use Rattle.page_promises.proofs.Lists.{list-kept}
use Rattle.page.specs.Maps.{map_of}
use Rattle.page.proofs.Calls.{octets, weighed, list-in-order, listed, list-turned-away}
use Rattle.page.proofs.writing.write_list_if.Goals as goal

pub write_datas-requires : goal.write_datas-requires
write_datas-requires c =
    let g = list-in-order (map_of c.args.map) c.args.weights c.args.code c.args.bytes c.args.strips c.args.count c.args.page.now c.args.data.now c.judged.ensures c.in-Ok.is in
    record {
      listed = listed_by _ _ _ _ _ (count-in-order _ _ _ _ _ _ _ _ g) (weighted-in-order (some _) _ _ _ _ _ _ _ g);
      dear = dear-by (some _) _ _ _ _ _ _ _ g;
    }

pub returns-in-Ok : goal.returns-in-Ok
returns-in-Ok c =
    let weights = weighed c.well_formed.1.1.1.0.1.0.1 (λ i. elem_Fits w8 w8 c.args.weights _ i c.well_formed.1.1.1.0.1.1 tt) in
    let z = listed (map_of c.args.map) c.args.weights c.args.code c.args.bytes c.args.strips c.args.count c.args.page.now c.args.data.now c.judged.ensures c.in-Ok.is c.code_of.ensures c.map_if.ensures c.write_datas.ensures.value c.write_datas.ensures.page_after in
    let rest = list-kept _ _ _ _ _ _ _ _ weights (octets c.type_inv.data) z.1 z.0 in
    record {
      value = z.0;
      page_after = z.1;
      wrote_list = rest.0;
      list_bounds = rest.1;
    }

pub returns-in-Err : goal.returns-in-Err
returns-in-Err c =
    let weights = weighed c.well_formed.1.1.1.0.1.0.1 (λ i. elem_Fits w8 w8 c.args.weights _ i c.well_formed.1.1.1.0.1.1 tt) in
    let z = list-turned-away (map_of c.args.map) c.args.weights c.args.code c.args.bytes c.args.strips c.args.count c.args.page.now c.args.data.now c.judged.ensures c.in-Err.is in
    let e = c.refused_list.ensures ∙ z.0 in
    let rest = list-kept _ _ _ _ _ _ _ _ weights (octets c.type_inv.data) z.1 e in
    record {
      value = e;
      page_after = z.1;
      wrote_list = rest.0;
      list_bounds = rest.1;
    }
