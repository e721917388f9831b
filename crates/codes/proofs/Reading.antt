-- Laws of the paper's sums: the sum of a stage is the sum of two convolutions.
--   ago-now, ago-at       what a sequence was: now, from stage 0 on
--   ago-before, ago-suc   before stage 0, a stage later
--   conv-sum              a convolution is the sum of digit i times what the sequence was i stages ago
--   sum_bit-bound         the sum of a stage is 0 or 1
--   sum_bit-conv          it is g times the bits a plus G1 times the bits b
--   sum_bit-same          it depends on the bits up to its stage
use mathlib.Core.Path.{◌≡◌, refl, sym, ◌∙◌, ap, ap₂}
use mathlib.Core.Bool.{Bool, cond}
use Prim.Native.Nat.compare
use Prim.Native.Nat.{ℕ, zero, suc, ◌<◌, ◌≤◌, ◌+◌, ◌*◌, ◌-◌, ◌%◌}
use native.Mathlib.Omega.{arith}
use native.Mathlib.Nat.{mod-lt, zero-lt-suc}
use lib.Dec.{ltb}
use borrow.Author.Tests.{lt-ltb, le-ltb}
use Rattle.cells.specs.Places.{list_of, sum_of}
use Rattle.cells.proofs.Places.{sum_of-same, sum_of-zero, sum_of-add}
use Rattle.codes.specs.Generators.{digit}
use Rattle.codes.specs.Reading.{ago, sum_bit}
use Rattle.codes.specs.Sequences.{◌+₂◌, Bits, zeros, ◌⊕◌, scale, shift, conv, odd}
use Rattle.codes.specs.Encoders.{digit_bits}
use Rattle.codes.proofs.Sequences.{odd-add, odd-mul, odd-mod-two}

-- AGO. No stage ago is now
pub ago-now : (x : ℕ → ℕ) (t : ℕ) → ago x t 0 ≡ x t
unfolding ago
ago-now x t = let e : t - 0 ≡ t = omega arith in rw (le-ltb t 0 (omega arith), e)

-- from stage 0 on it is x
pub ago-at : (x : ℕ → ℕ) (t i : ℕ) → i ≤ t → ago x t i ≡ x (t - i)
unfolding ago
ago-at x t i h = rw (le-ltb t i h)

-- before stage 0 all is 0
pub ago-before : (x : ℕ → ℕ) (i : ℕ) → ago x 0 (suc i) ≡ 0
unfolding ago
ago-before x i = rw (lt-ltb 0 (suc i) (omega arith))

-- a stage later, a stage more ago
pub ago-suc : (x : ℕ → ℕ) (t i : ℕ) → ago x (suc t) (suc i) ≡ ago x t i
unfolding ago
ago-suc x t i = let e : suc t - suc i ≡ t - i = omega arith in rw (compare.suc-suc (suc t) i, e)

-- what x was depends on x up to the present stage
ago-same : (x y : ℕ → ℕ) (t i : ℕ) → ((s : ℕ) → s ≤ t → x s ≡ y s) → ago x t i ≡ ago y t i
unfolding ago
ago-same x y t i e = ap (λ (n : ℕ). cond (ltb t i) 0 n) (e (t - i) (omega arith))

-- SUMS. A stage later the sum over digits goes back a stage more
shift-sum : (n : ℕ) (f x : ℕ → ℕ) (d : Bits) → ((t : ℕ) → d t ≡ odd (sum_of n (λ i. f i * ago x t i))) → (t : ℕ)
    → shift d t ≡ odd (sum_of n (λ i. f i * ago x t (suc i)))
unfolding shift odd
shift-sum n f x d e zero = sym (ap odd (sum_of-zero n _ (λ i h. rw (ago-before x i) (omega arith))))
shift-sum n f x d e (suc t) = e t ∙ ap odd (sum_of-same n _ _ (λ i h. rw (ago-suc x t i)))

-- the convolution with a list of digits is the sum over the digits
pub conv-sum : (n : ℕ) (f x : ℕ → ℕ) (t : ℕ)
    → conv (list_of n (λ i. odd (f i))) (λ s. odd (x s)) t ≡ odd (sum_of n (λ i. f i * ago x t i))
unfolding conv list_of sum_of scale shift ◌⊕◌ zeros odd
conv-sum zero f x t = refl
conv-sum (suc n) f x t =
    let e = shift-sum n (λ i. f (suc i)) x _ (conv-sum n (λ i. f (suc i)) x) t in
    rw (odd-add (f 0 * ago x t 0) _, odd-mul (f 0) (ago x t 0), ago-now x t, e)

-- the sum of a stage is 0 or 1
pub sum_bit-bound : (m g1 g : ℕ) (a b : ℕ → ℕ) (t : ℕ) → sum_bit m g1 g a b t < 2
unfolding sum_bit
sum_bit-bound m g1 g a b t = mod-lt _ (zero-lt-suc 1)

-- it is g times the bits a plus G1 times the bits b
pub sum_bit-conv : (m g1 g : ℕ) (a b : ℕ → ℕ) (t : ℕ)
    → odd (sum_bit m g1 g a b t) ≡ (conv (digit_bits m g) (λ s. odd (a s)) ⊕ conv (digit_bits m g1) (λ s. odd (b s))) t
unfolding sum_bit ◌⊕◌
sum_bit-conv m g1 g a b t =
    odd-mod-two _ ∙ ap odd (sum_of-add (suc m) _ _) ∙ odd-add _ _
    ∙ ap₂ (λ (c d : Bool). c +₂ d) (sym (conv-sum (suc m) (digit m g) a t)) (sym (conv-sum (suc m) (digit m g1) b t))

-- it depends on the bits up to its stage
pub sum_bit-same : (m g1 g : ℕ) (a b a' b' : ℕ → ℕ) (t : ℕ) → ((s : ℕ) → s ≤ t → a s ≡ a' s) → ((s : ℕ) → s ≤ t → b s ≡ b' s)
    → sum_bit m g1 g a b t ≡ sum_bit m g1 g a' b' t
unfolding sum_bit
sum_bit-same m g1 g a b a' b' t e f =
    ap (λ (s : ℕ). s % 2)
    (sum_of-same (suc m) _ _ (λ i k. ap₂ (λ (x y : ℕ). digit m g i * x + digit m g1 i * y) (ago-same a a' t i e) (ago-same b b' t i f)))
