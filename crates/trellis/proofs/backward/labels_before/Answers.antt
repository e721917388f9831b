-- Before the first block there is no label; else the division is undone.
use mathlib.Core.Path.{◌≡◌, refl, ap, ap₂, ◌∙◌}
use Prim.Native.Nat.{ℕ, ◌<◌, ◌+◌, ◌*◌, ◌-◌}
use native.Mathlib.Omega.{arith}
use Rattle.cells.specs.Bytes.{bit_of}
use Rattle.codes.specs.Codes.{generators_of}
use Rattle.codes.specs.Taps.{window_of}
use Rattle.codes.specs.Blocks.{label_at}
use Rattle.codes.proofs.Codes.{proper, memory-bounds}
use Rattle.codes.proofs.Taps.{window-less}
use Rattle.rows.proofs.Labels.{labels-back}
use Rattle.trellis.proofs.backward.labels_before.Goals as goal

pub returns-then-q-eq0 : goal.returns-then-q-eq0
unfolding window_of
returns-then-q-eq0 c =
    let z : c.args.q ≡ 0 = c.if-q-eq0.true in
    (rw z refl, omega arith)

pub divide_back-requires : goal.divide_back-requires
divide_back-requires c =
    let l = window-less 8 (label_at (generators_of c.args.code) c.args.data.now) (8 * (c.args.q + 1)) in
    (omega (arith, l, c.requires.2), omega (arith, c.data_window-earlier.ensures.1, c.data_window-later.ensures.1))

pub returns : goal.returns
returns c =
    let p : 0 < c.args.q = omega arith in
    let e : c.args.q - 1 + 1 ≡ c.args.q = omega arith in
    let d = ap₂ (λ (x y : ℕ). x * 256 + y) (c.data_window-earlier.ensures.0
    ∙ ap (λ (k : ℕ). window_of 8 (bit_of c.args.data.now) (8 * k)) e)
    c.data_window-later.ensures.0 in (
      labels-back (proper c.args.code) (memory-bounds c.args.code.name).1 c.args.data.now c.args.q p c.requires.2 d
          c.divide_back.ensures.by_index,
      c.divide_back.ensures.upper_bound,
    )
