-- Eight stages divided by the first generator, in the program: the digits of a way.
--   state-place     a block's part of the history has a place for each state
--   followed-step   what is divided after eight digits of a way that is followed are the next eight
use mathlib.Core.Path.{◌≡◌, sym, ◌∙◌, ap}
use mathlib.Core.List.{List}
use Prim.Native.Nat.{ℕ, ◌<◌, ◌≤◌, ◌+◌, ◌*◌, ◌%◌, ◌^◌}
use native.Mathlib.Omega.{arith}
use native.Mathlib.Nat.{mod-lt}
use lib.Bits.{bit_xor}
use lib.ListN.{get_or}
use lib.Pow.{pow_pos}
use Rattle.codes.specs.Generators.{Generators}
use Rattle.codes.specs.Taps.{taps_of, window_of}
use Rattle.codes.specs.Blocks.{Gives}
use Rattle.codes.proofs.Taps.{window-less}
use Rattle.codes.proofs.Windows.{window-mod}
use Rattle.trellis.specs.Ways.{Followed}

-- a block's part of the history has a place for each state
pub state-place : (m : ℕ) {states : ℕ} → (states ≡ 2 ^ m) × (states ≤ 64) → (0 < states) × ((w : ℕ) → w % states < 64)
state-place m {states} h =
    let p = pow_pos m in
    let some : 0 < states = omega (arith, h.0, p) in
    (some, λ w. omega (arith, h.1, mod-lt w some))

-- what is divided after eight digits of a way that is followed are the next eight
pub followed-step : (G : Generators) → G.memory ≤ 6 → {lows history : List ℕ} {n : ℕ} (u : ℕ → ℕ) → Followed G lows history n u
    → (q : ℕ) → q < n → {before trail low r : ℕ} → before ≡ window_of 8 u (8 * q)
    → trail ≡ get_or history (64 * q + before % 2 ^ G.memory) 0 → low ≡ get_or lows q 0
    → ((y : ℕ) → y < 256 → Gives (taps_of G.memory G.g1) (before * 256 + y) (bit_xor trail low) 0 → y ≡ r)
    → r ≡ window_of 8 u (8 * (q + 1))
followed-step G reach {history = history} u f q h {before = before} e t l only =
    let s : before % 2 ^ G.memory ≡ window_of G.memory u (8 * q) =
    ap (λ (w : ℕ). w % 2 ^ G.memory) e ∙ window-mod G.memory 8 u (8 * q) (omega arith) in
    let k = t ∙ ap (λ (w : ℕ). get_or history (64 * q + w) 0) s in
    sym (only (window_of 8 u (8 * (q + 1))) (window-less 8 u (8 * (q + 1))) (rw (e, k, l) (f.gives q h)))
