-- Eight stages divided by the first generator, in the program: the labels of the data, forth and back.
--   byte-window     the window of a byte of data
--   labels-forth    what is divided after eight labels are the next eight
--   labels-back     and the division undone gives the eight before
use mathlib.Core.Path.{◌≡◌, sym, ◌∙◌, ap₂}
use mathlib.Core.List.{List}
use Prim.Native.Nat.{ℕ, ◌<◌, ◌≤◌, ◌+◌, ◌*◌, ◌-◌, ◌/◌, ◌%◌, ◌^◌}
use native.Mathlib.Omega.{arith}
use lib.ListN.{get_or}
use Rattle.cells.specs.Bytes.{bit_of}
use Rattle.cells.proofs.Bytes.{bit-bound}
use Rattle.codes.specs.Generators.{Generators}
use Rattle.codes.specs.Encoders.{Proper}
use Rattle.codes.specs.Taps.{taps_of, window_of}
use Rattle.codes.specs.Blocks.{Gives, label_at}
use Rattle.codes.proofs.Taps.{window-less}
use Rattle.codes.proofs.Windows.{window-of-word, label-bound, label-window, windows-give, windows-give-back}

-- the window of byte q of the data
pub byte-window : (content : List ℕ) (q : ℕ) {r : ℕ} → r ≡ window_of 8 (λ i. get_or content q 0 / 2 ^ (1 * i) % 2) 8
    → r ≡ window_of 8 (bit_of content) (8 * (q + 1))
unfolding bit_of
byte-window content q e =
    e ∙ window-of-word (get_or content q 0) 1 (bit_of content) (bit-bound content) q
    (λ i h.
    let x : 1 * i ≡ (8 * q + i) % 8 = omega arith in
    let y : q ≡ (8 * q + i) / 8 = omega arith in
    ap₂ (λ (k j : ℕ). get_or content j 0 / 2 ^ k % 2) x y)

module _ {G : Generators} (P : Proper G) (reach : G.memory ≤ 6) (content : List ℕ) (q : ℕ) where
  -- the taps of the first generator
  abbrev taps : ℕ
  taps = taps_of G.memory G.g1

  -- the eight labels after stage 8·n
  abbrev at : ℕ → ℕ
  at n = window_of 8 (label_at G content) (8 * n)

  -- what is divided after the labels of the blocks before q are those of block q
  pub labels-forth : {before d r : ℕ} → before ≡ at q → d ≡ window_of 8 (bit_of content) (8 * (q + 1))
      → ((y : ℕ) → y < 256 → Gives taps (before * 256 + y) d 0 → y ≡ r) → r ≡ at (q + 1)
  labels-forth e f h =
      sym (h (at (q + 1)) (window-less 8 (label_at G content) (8 * (q + 1)))
      (rw (e, f)
      (windows-give G.memory G.g1 (label_at G content) (bit_of content) (label-bound G content) (bit-bound content) q reach
      (λ t l. label-window G P content t))))

  -- and the division undone gives those before block q
  pub labels-back : {later d r : ℕ} → 0 < q → later ≡ at (q + 1)
      → d ≡ window_of 8 (bit_of content) (8 * q) * 256 + window_of 8 (bit_of content) (8 * (q + 1))
      → ((y : ℕ) → y < 256 → Gives taps (y * 256 + later) d (8 - G.memory) → y ≡ r) → r ≡ at q
  labels-back p e f h =
      sym (h (at q) (window-less 8 (label_at G content) (8 * q))
      (rw (e, f)
      (windows-give-back G.memory G.g1 (label_at G content) (bit_of content) (label-bound G content) (bit-bound content) q reach
      (λ t l. label-window G P content t) p)))
