use mathlib.Core.Path.{refl, sym, ◌∙◌, ap}
use Prim.Native.Nat.{suc, ◌/◌, ◌^◌, ◌<◌}
use native.Mathlib.Omega.{arith}
use lib.ListN.{length}
use Rattle.text.specs.Text.{onto, decimal}
use Rattle.text.proofs.Text.{digits_more, size-more, size-most, size-some, onto-append, onto-last}
use Rattle.text.proofs.printing.Printed.put_decimal.Goals as goal

pub loop-n-init : goal.loop-n-init
loop-n-init c =
    let e : c.args.number < 10 ^ 20 = omega arith in
    record { room = omega (arith, size-most 19 c.args.number e); written = refl }

pub put_byte-requires : goal.put_byte-requires
put_byte-requires c = omega (arith, size-some c.loop-n.n)

pub loop-n-preserved : goal.loop-n-preserved
loop-n-preserved c =
    record {
      room = omega (arith, size-more c.loop-n.n c.loop-n-test.true, ap length c.put_byte.ensures);
      written =
          c.loop-n.invariant.written ∙ digits_more c.loop-n.n _ c.loop-n-test.true
          ∙ ap (onto (suc (c.loop-n.n / 10)) (c.loop-n.n / 10)) (sym c.put_byte.ensures);
    }

pub put_byte-requires-2 : goal.put_byte-requires-2
put_byte-requires-2 c = omega (arith, size-some c.loop-n.n)

pub returns : goal.returns
unfolding decimal
returns c =
    record {
      text_is =
          c.put_byte-2.ensures ∙ sym (onto-last c.loop-n.n c.loop-n.n _ (omega arith)) ∙ sym c.loop-n.invariant.written
          ∙ onto-append (suc c.args.number) c.args.number _;
      near = omega (arith, size-some c.loop-n.n, ap length c.put_byte-2.ensures);
    }
