-- The length is tested, then the digits.
use mathlib.Core.Path.{◌≡◌, ◌∙◌}
use mathlib.Core.Bool.{false}
use Rattle.text.specs.Hex.{is_data}
use lib.ListN.{length}
use Rattle.text.proofs.Hex.{data-odd, data-even, data-kept, data-made}
use Rattle.text.proofs.decoding.decode.Goals as goal
use Rattle.text.proofs.decoding.decode.Goals.{then-line-data-via-then-line-data, then-line-data-via-else-line-data+then-not-all_hex}

pub returns-then-line-data : goal.returns-then-line-data
returns-then-line-data c =
    let n = length c.args.data.now in
    let e : is_data n c.args.line.now ≡ false = elim c.then-line-data.branch [
      | then-line-data-via-then-line-data w ↦ data-odd n c.args.line.now w.if-line-data.true
      | then-line-data-via-else-line-data+then-not-all_hex w ↦ data-even n c.args.line.now _ w.if-line-data.false w.all_hex.ensures ∙ w.if-not-all_hex.true
    ] in
    let both = data-kept c.args.data.now c.args.line.now e in
    record {
      value = both.0;
      data_after = both.1;
    }

pub returns : goal.returns
returns c =
    let e = data-even (length c.args.data.now) c.args.line.now _ c.if-line-data.false c.all_hex.ensures ∙ c.if-not-all_hex.false in
    let both = data-made c.args.data.now c.args.line.now e c.fill.ensures in
    record {
      value = both.0;
      data_after = both.1;
    }
