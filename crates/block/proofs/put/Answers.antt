-- A call that is judged in order writes what is chosen, any other changes nothing; and both keep the promise.
use mathlib.Core.Path.{◌≡◌, sym, ◌∙◌}
use mathlib.Core.Option.{none}
use native.Mathlib.Omega.{arith}
use Rattle.cells.specs.Bytes.{Octets}
use Rattle.cells.specs.Raising.{start_of}
use Rattle.refusals.proofs.Refusals.{done_none, refused-some}
use Rattle.block_promises.specs.Block.{ground_of_put}
use Rattle.block_promises.proofs.Block.{in-order-put, refused-put, put-call-kept}
use Rattle.block.proofs.put.Goals as goal

pub returns-in-Ok : goal.returns-in-Ok
returns-in-Ok c =
    let octets : Octets c.args.data.now = record { below = λ q h. omega (arith, c.type_inv.data q) } in
    let in_order : ground_of_put c.args.code c.args.bytes c.args.strips c.args.pages c.args.block.now c.args.data.now ≡ none = done_none _ (sym c.judge_put.ensures ∙ c.in-Ok.is) in
    let z = in-order-put start_of c.args.code c.args.bytes c.args.strips c.args.pages c.args.block.now c.args.data.now in_order in
    let e = c.put_cheapest.ensures.value ∙ z.0 in
    let p = c.put_cheapest.ensures.block_after ∙ z.1 in
    let rest = put-call-kept c.args.code c.args.bytes c.args.strips c.args.pages c.args.block.now c.args.data.now octets e p in
    record {
      value = e;
      block_after = p;
      wrote_put = rest.0;
      result_bound = rest.1;
    }

pub returns-in-Err : goal.returns-in-Err
returns-in-Err c =
    let octets : Octets c.args.data.now = record { below = λ q h. omega (arith, c.type_inv.data q) } in
    let z = refused-put start_of c.args.code c.args.bytes c.args.strips c.args.pages c.args.block.now c.args.data.now
    (refused-some _ (sym c.judge_put.ensures ∙ c.in-Err.is)) in
    let rest = put-call-kept c.args.code c.args.bytes c.args.strips c.args.pages c.args.block.now c.args.data.now octets z.0 z.1 in
    record {
      value = z.0;
      block_after = z.1;
      wrote_put = rest.0;
      result_bound = rest.1;
    }
