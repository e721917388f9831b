-- The write of a page as it is computed: each strip's search, one after the other.
--   strip_write   the write of strip k
--   page_write    the writes of all strips: new levels and their cost, or none
--   spent_strip   the number of the first strip that has none
use Rattle.std.proofs.Math.Option.{Option}
use Rattle.std.specs.Prelude.{List, ℕ, ◌+◌, ◌*◌}
use Rattle.cells.specs.Places.{list_of}
use Rattle.codes.specs.Layouts.{byte_count}
use Rattle.search.specs.Best.{Solution}
use Rattle.search.specs.Trellis.{all, first-none}
use Rattle.search.specs.Layouts.{rewrite_of}
use Rattle.demand.specs.Jobs.{part, Job, width}

module _ (J : Job) where
  -- the bytes of strip k
  unfoldable pub strip_bytes : ℕ → List ℕ
  strip_bytes k = part (byte_count J.layout J.bytes) k J.page

  -- strip k's write, on its own bytes, marks and part of the data
  unfoldable pub strip_write : ℕ → Option Solution
  strip_write k = rewrite_of J.layout J.code J.weights J.bytes (strip_bytes k) (λ c. J.marks (width J * k + c))
      (part J.bytes k J.content)

  -- strips 0 .. S − 1, one after the other
  unfoldable pub page_write : Option Solution
  page_write = all strip_write (list_of J.strips (λ k. k))

  -- the first that has none
  unfoldable pub spent_strip : ℕ
  spent_strip = first-none strip_write (list_of J.strips (λ k. k))
