use mathlib.Core.Path.{◌≡◌, ◌∙◌, ap₂}
use Prim.Native.Nat.{ℕ, ◌<◌, ◌≤◌, ◌+◌, ◌*◌}
use native.Mathlib.Omega.{arith}
use native.Mathlib.Nat.{not-suc-le-zero}
use Rattle.codes.specs.Codes.{generators_of}
use Rattle.codes.specs.Reading.{read_strip}
use Rattle.codes.specs.Layouts.{one_bit}
use Rattle.demand.proofs.Reading.{parts-read}
use Rattle.demand.specs.Reading.{read_page}
use Rattle.page_parts.specs.Shape.{strip_part}
use Rattle.demand.proofs.Jobs.{one_bit-whole}
use Rattle.cells.proofs.Parts.{within}
use Rattle.page_parts.proofs.Strips.{strip-there, lent_length, part-more}
use Rattle.refusals.proofs.Refusals.{one-to-64}
use Rattle.page_reading.proofs.read_strips.Goals as goal

-- part k ends within the buffer
fits : (L S : ℕ) {k size : ℕ} → size ≡ L * S → k < S → L * k + L ≤ size
fits L S {k} e h = omega (arith, within L k S h)

pub read_strip-requires : goal.read_strip-requires
read_strip-requires c =
    let fit = fits c.args.bytes c.args.strips (c.loop-k.auto.data ∙ c.requires.data_is) c.loop-k-test.true in
    rw (lent_length _ _ _ fit) (one-to-64 c.args.bytes c.requires.bytes_in).1

pub loop-k-preserved : goal.loop-k-preserved
loop-k-preserved c =
    let fit = fits c.args.bytes c.args.strips (c.loop-k.auto.data ∙ c.requires.data_is) c.loop-k-test.true in
    let m = lent_length c.args.bytes c.loop-k.k c.loop-k.data fit in
    let n = c.read_strip.auto.data ∙ m in
    let y : c.read_strip.new.data ≡ read_strip one_bit (generators_of c.args.code) c.args.bytes (strip_part c.args.bytes c.loop-k.k c.args.page.now) =
    c.read_strip.ensures.data_after
    ∙ ap₂ (read_strip one_bit (generators_of c.args.code)) m (c.strip.ensures.result_value
    ∙ strip-there c.args.bytes c.args.strips c.loop-k.k c.args.page.now c.requires.bytes_in c.requires.page_is c.loop-k-test.true) in
    part-more c.args.bytes c.loop-k.k c.loop-k.data c.read_strip.new.data
    (λ j z. z ≡ read_strip one_bit (generators_of c.args.code) c.args.bytes (strip_part c.args.bytes j c.args.page.now)) fit n y c.loop-k.invariant

pub returns : goal.returns
unfolding read_page
returns c =
    let e : c.loop-k.k ≡ c.args.strips = omega arith in
    parts-read one_bit _ c.args.bytes c.args.strips c.args.page.now (one_bit-whole c.args.bytes) c.loop-k.data (c.loop-k.auto.data
    ∙ c.requires.data_is) (λ j h. c.loop-k.invariant j (omega arith))
