use mathlib.Core.Path.{◌≡◌, sym, ◌∙◌, ap}
use Prim.Native.Nat.{ℕ, suc, ◌<◌, ◌≤◌, ◌+◌, ◌*◌, ◌/◌, ◌%◌, ◌^◌}
use native.Mathlib.Omega.{arith}
use native.Mathlib.Numerals.{add-one}
use lib.Pow.{pow_mono}
use borrow.Author.Rules.{rules}
use Rattle.codes.specs.Taps.{window_of}
use Rattle.codes.proofs.blocks.window.Goals as goal

pub loop-i-init : goal.loop-i-init
unfolding window_of
loop-i-init c = search rules

pub loop-i-preserved : goal.loop-i-preserved
unfolding window_of
loop-i-preserved c =
    let k : c.loop-i.i ≤ 7 = omega arith in
    let room : c.loop-i.w < 128 = omega (arith, pow_mono k) in
    let b = c.args.word / 2 ^ (c.args.step * c.loop-i.i) % 2 in
    let h : b < 2 = omega arith in
    let s : (2 * c.loop-i.w + b) % 256 ≡ 2 * c.loop-i.w + b = omega (arith, room) in
    let e : 2 ^ suc c.loop-i.i ≡ 2 * 2 ^ c.loop-i.i = omega arith in
    (rw (add-one c.loop-i.i) (sym s ∙ ap (λ (w : ℕ). (2 * w + b) % 256) c.loop-i.invariant.0), rw (add-one c.loop-i.i) (omega arith))
