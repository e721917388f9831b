-- A call that is judged in order answers as its strips do, any other as it was judged; and such an answer keeps the promise.
use mathlib.Core.Path.{refl, ◌∙◌}
use mathlib.Core.Option.{none}
use mir.Syntax.{w8}
use borrow.Author.Rules.{elem_Fits}
use Rattle.refusals.proofs.Refusals.{weighted-in-order}
use Rattle.page_parts.proofs.Strips.{sized-by}
use Rattle.page_promises.proofs.Promise.{dear-by}
use Rattle.page_promises.proofs.Bounds.{write_kept}
use Rattle.page.specs.Maps.{map_of}
use Rattle.page.proofs.Calls.{octets, weighed, in-order, answered, turned-away}
use Rattle.page.proofs.writing.price_if.Goals as goal

pub invariant_of-job : goal.invariant_of-job
invariant_of-job c =
    let g = in-order (map_of c.args.map) c.args.weights c.args.code c.args.bytes c.args.strips c.args.page.now c.args.data.now c.judged.ensures c.in-Ok.is in
    let Z = sized-by _ _ c.args.page.now c.args.data.now (weighted-in-order none _ _ _ _ _ _ _ g) in
    record {
      weighed = weighed c.well_formed.1.1.1.0.1.0.1 (λ i. elem_Fits w8 w8 c.args.weights _ i c.well_formed.1.1.1.0.1.1 tt);
      dear = dear-by none _ _ _ _ _ _ _ g;
      bytes_in = Z.bytes_in;
      strips_in = Z.strips_in;
      data_is = Z.data_is;
    }

pub price_strips-requires : goal.price_strips-requires
price_strips-requires c =
    let g = in-order (map_of c.args.map) c.args.weights c.args.code c.args.bytes c.args.strips c.args.page.now c.args.data.now c.judged.ensures c.in-Ok.is in
    record { page_is = (weighted-in-order none _ _ _ _ _ _ _ g).page_is }

pub returns-in-Ok : goal.returns-in-Ok
returns-in-Ok c =
    let weights = weighed c.well_formed.1.1.1.0.1.0.1 (λ i. elem_Fits w8 w8 c.args.weights _ i c.well_formed.1.1.1.0.1.1 tt) in
    let z = answered (map_of c.args.map) c.args.weights c.args.code c.args.bytes c.args.strips c.args.page.now c.args.data.now c.judged.ensures c.in-Ok.is c.code_of.ensures c.map_if.ensures in
    let e = c.price_strips.ensures ∙ z.0 in
    let rest = write_kept _ _ _ _ _ _ _ weights (octets c.type_inv.data) refl e in
    record {
      value = e;
      wrote_with = rest.0;
      result_bound = rest.1;
    }

pub returns-in-Err : goal.returns-in-Err
returns-in-Err c =
    let weights = weighed c.well_formed.1.1.1.0.1.0.1 (λ i. elem_Fits w8 w8 c.args.weights _ i c.well_formed.1.1.1.0.1.1 tt) in
    let z = turned-away (map_of c.args.map) c.args.weights c.args.code c.args.bytes c.args.strips c.args.page.now c.args.data.now c.judged.ensures c.in-Err.is in
    let rest = write_kept _ _ _ _ _ _ _ weights (octets c.type_inv.data) refl z.0 in
    record {
      value = z.0;
      wrote_with = rest.0;
      result_bound = rest.1;
    }
