-- The code, then the band, then the page's length: the grounds in the same order.
use mathlib.Core.Path.{refl, ◌∙◌}
use Rattle.codes.specs.Layouts.{one_bit}
use Rattle.refusals.specs.Refusals.{one_to_64, code_ground, bytes_ground, strips_ground, limits_ground, band_ground, page_ground}
use Rattle.refusals.specs.Refusals.{band_bytes, band_strips, value_ground}
use Rattle.refusals.proofs.Refusals.{code-ground, judged-and}
use Rattle.judges.proofs.judge_value.Goals as goal

pub judge_page-of_page-requires : goal.judge_page-of_page-requires
unfolding limits_ground bytes_ground strips_ground one_to_64
judge_page-of_page-requires c = refl

pub returns : goal.returns
unfolding value_ground
returns c =
    c.and-2.ensures
    ∙ judged-and (code_ground c.args.code) _ (rw (code-ground c.args.code) at c.judge_sizes-of_code.ensures)
    (c.and.ensures
    ∙ judged-and (band_ground c.args.band) (page_ground one_bit band_bytes band_strips c.args.page) c.judge_band-of_band.ensures
    c.judge_page-of_page.ensures)
