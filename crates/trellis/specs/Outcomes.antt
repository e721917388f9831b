-- What a search says of the strip: the cost of its data, or None where no pattern takes them.
--   decoded_outcome v    the cost v, or None where v is no cost
--   solution_outcome r   the cost of a write, or None where there is none
use Rattle.std.specs.Prelude.{cond, ℕ, ltb, Option, Some, None}
use Rattle.std.proofs.Math.Option as Math
use Rattle.search.specs.Best.{Solution}
use Rattle.stages.specs.Stage.{closed}

-- a number below closed is a cost, and any other is none
abbrev pub decoded_outcome : ℕ → Option ℕ
decoded_outcome v = cond (ltb v closed) (Some v) None

-- the cost, or None
unfoldable pub solution_outcome : Math.Option Solution → Option ℕ
solution_outcome Math.none = None
solution_outcome (Math.some a) = Some a.cost
