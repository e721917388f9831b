use mathlib.Core.Path.{◌≡◌, refl, ap, ◌∙◌}
use Prim.Native.Nat.{ℕ, ◌+◌, ◌*◌, ◌%◌, ◌^◌}
use native.Mathlib.Omega.{arith}
use Rattle.cells.specs.Places.{from_bits}
use Rattle.cells.specs.Levels.{level}
use Rattle.codes.specs.Taps.{window_of, first_bit, second_bit, tapped_bit}
use Rattle.cells.proofs.Places.{number-next, number_fits}
use Rattle.codes.proofs.Taps.{window-less, tapped-bound, first_next, second-next, data-next}
use Rattle.codes.proofs.strips.read_byte.Goals as goal

pub loop-i-init : goal.loop-i-init
unfolding from_bits
loop-i-init c =
    let s : 8 * c.args.q ≡ 8 * c.args.q + 0 = omega arith in
    (c.requires.1.first_is ∙ ap (window_of 7 _) s, c.requires.1.second_is ∙ ap (window_of 7 _) s, refl)

pub overflow_mul-a : goal.overflow_mul-a
overflow_mul-a c =
    omega (arith, window-less 7 (first_bit (level c.args.strip.now)) (8 * c.args.q + c.loop-i.i))

pub overflow_add-a : goal.overflow_add-a
overflow_add-a c =
    omega (arith, window-less 7 (first_bit (level c.args.strip.now)) (8 * c.args.q + c.loop-i.i))

pub overflow_mul-b : goal.overflow_mul-b
overflow_mul-b c =
    omega (arith, window-less 7 (second_bit (level c.args.strip.now)) (8 * c.args.q + c.loop-i.i))

pub overflow_add-b : goal.overflow_add-b
overflow_add-b c =
    omega (arith, window-less 7 (second_bit (level c.args.strip.now)) (8 * c.args.q + c.loop-i.i))

pub overflow_add-byte : goal.overflow_add-byte
overflow_add-byte c =
    let first-window : (2 * c.loop-i.a + c.level.result % 2) % 128 ≡ window_of 7 (first_bit (level c.args.strip.now)) (8 * c.args.q + (c.loop-i.i + 1)) = first_next (level c.args.strip.now) c.args.q c.loop-i.i c.loop-i.a c.level.result c.loop-i.invariant.0 c.level.ensures.0 in
    let second-window : (2 * c.loop-i.b + c.level-in-loop-i.result % 2) % 128 ≡ window_of 7 (second_bit (level c.args.strip.now)) (8 * c.args.q + (c.loop-i.i + 1)) = second-next (level c.args.strip.now) c.args.q c.loop-i.i c.loop-i.b c.level-in-loop-i.result c.loop-i.invariant.1 c.level-in-loop-i.ensures.0 in
    let byte_next : c.loop-i.byte + ((c.parity.result + c.parity-in-loop-i.result) % 2 * 2 ^ c.loop-i.i) % 2 ^ 32 ≡ from_bits (c.loop-i.i + 1) (λ k. tapped_bit c.args.g1 c.args.g2 (level c.args.strip.now) (8 * c.args.q + k)) = let v = level c.args.strip.now in
    let e = first-window in
    let f = second-window in
    number-next c.loop-i.i 32 c.loop-i.byte _ _ (λ k. tapped-bound c.args.g1 c.args.g2 v (8 * c.args.q + k)) (omega arith) c.loop-i.invariant.2
    (data-next v c.args.q c.loop-i.i c.args.g1 c.args.g2 _ _ _ _ e f c.parity.ensures.0 c.parity-in-loop-i.ensures.0) in
    let v = level c.args.strip.now in
    omega (arith, byte_next, number_fits (c.loop-i.i + 1) 32 _ (λ k. tapped-bound c.args.g1 c.args.g2 v (8 * c.args.q + k)) (omega arith))

pub loop-i-preserved : goal.loop-i-preserved
loop-i-preserved c =
    let first-window : (2 * c.loop-i.a + c.level.result % 2) % 128 ≡ window_of 7 (first_bit (level c.args.strip.now)) (8 * c.args.q + (c.loop-i.i + 1)) = first_next (level c.args.strip.now) c.args.q c.loop-i.i c.loop-i.a c.level.result c.loop-i.invariant.0 c.level.ensures.0 in
    let second-window : (2 * c.loop-i.b + c.level-in-loop-i.result % 2) % 128 ≡ window_of 7 (second_bit (level c.args.strip.now)) (8 * c.args.q + (c.loop-i.i + 1)) = second-next (level c.args.strip.now) c.args.q c.loop-i.i c.loop-i.b c.level-in-loop-i.result c.loop-i.invariant.1 c.level-in-loop-i.ensures.0 in
    let byte_next : c.loop-i.byte + ((c.parity.result + c.parity-in-loop-i.result) % 2 * 2 ^ c.loop-i.i) % 2 ^ 32 ≡ from_bits (c.loop-i.i + 1) (λ k. tapped_bit c.args.g1 c.args.g2 (level c.args.strip.now) (8 * c.args.q + k)) = let v = level c.args.strip.now in
    let e = first-window in
    let f = second-window in
    number-next c.loop-i.i 32 c.loop-i.byte _ _ (λ k. tapped-bound c.args.g1 c.args.g2 v (8 * c.args.q + k)) (omega arith) c.loop-i.invariant.2
    (data-next v c.args.q c.loop-i.i c.args.g1 c.args.g2 _ _ _ _ e f c.parity.ensures.0 c.parity-in-loop-i.ensures.0) in
    (first-window, second-window, byte_next)

pub overflow_cast-result : goal.overflow_cast-result
overflow_cast-result c =
    let v = level c.args.strip.now in
    omega (arith, number_fits c.loop-i.i 8 _ (λ k. tapped-bound c.args.g1 c.args.g2 v (8 * c.args.q + k)) (omega arith))

pub returns : goal.returns
returns c =
    let v = level c.args.strip.now in
    let e : c.loop-i.i ≡ 8 = omega arith in
    let s : 8 * c.args.q + c.loop-i.i ≡ 8 * (c.args.q + 1) = omega arith in
    record {
      byte_value = c.loop-i.invariant.2 ∙ ap (λ (n : ℕ). from_bits n (λ k. tapped_bit c.args.g1 c.args.g2 v (8 * c.args.q + k))) e;
      windows_before = record { first_is = c.loop-i.invariant.0 ∙ ap (window_of 7 (first_bit v)) s; second_is = c.loop-i.invariant.1 ∙ ap (window_of 7 (second_bit v)) s };
    }
