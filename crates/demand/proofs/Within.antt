-- A page whose every cell can be raised.
--   page-within   THE PAGE with one bit a cell, in any layout, whose cells are unmarked and below level k, with weights of which the first
--                 k are at most w: its write is there, and raises at most half of a stage's cells, rounded down, for w each
use mathlib.Core.Path.{◌≡◌}
use mathlib.Core.Bool.{false}
use Prim.Native.Nat.{ℕ, ◌<◌, ◌≤◌, ◌+◌, ◌*◌, ◌/◌}
use native.Mathlib.Omega.{arith}
use Rattle.cells.specs.Places.{Each}
use Rattle.cells.specs.Levels.{level}
use Rattle.cells.specs.Climbs.{weight_of}
use Rattle.cells.proofs.Parts.{place_inside}
use Rattle.codes.specs.Layouts.{stage_count, byte_count}
use Rattle.codes.specs.Encoders.{encoder_of}
use Rattle.search.specs.Strip.{Dear, steps_of}
use Rattle.search.specs.Parity.{parity}
use Rattle.search.specs.Layouts.{meaning_of}
use Rattle.search.specs.Within.{Within, OneFirst}
use Rattle.search.proofs.Within.{all-within, strip-within}
use Rattle.demand.specs.Jobs.{part, Job, width, page_cells, InOrder}
use Rattle.demand.specs.Computed.{strip_bytes, strip_write, page_write}
use Rattle.demand.proofs.Jobs.{part-level}

pub page-within : (J : Job) → InOrder J → meaning_of J.layout ≡ parity J.layout.cells
    → Each OneFirst (encoder_of J.code).others → Dear (steps_of J.weights) → (k w : ℕ) → k ≤ 3
    → ((l : ℕ) → l < k → weight_of J.weights l ≤ w)
    → ((c : ℕ) → c < page_cells J → (J.marks c ≡ false) × (level J.page c < k))
    → Within (J.strips * (stage_count J.layout J.bytes * (J.layout.cells / 2 * w))) (page_write J)
unfolding page_write strip_write strip_bytes
page-within J I bit_a_cell lead D k w three most low =
    all-within (strip_write J) (stage_count J.layout J.bytes * (J.layout.cells / 2 * w)) J.strips (λ j. j)
    (λ j h.
    strip-within J.layout bit_a_cell J.code I.sound lead J.weights D k w three most J.bytes (strip_bytes J j)
    (λ c. J.marks (width J * j + c)) (part J.bytes j J.content)
    (λ c l.
    let p = low (width J * j + c) (place_inside (width J) j c l J.strips h) in (
      p.0,
      omega (
        arith,
        p.1,
        part-level (width J) (byte_count J.layout J.bytes) I.whole.cells_fill j J.page c l,
      ),
    )))
