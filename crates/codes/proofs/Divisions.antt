-- Laws of eight stages divided by a generator, forth and back: whatever eight bits give the data are what the program computes.
--   xor-bit                    a bit of a sum without carries is the sum of the bits mod 2
--   times-le                   a number times a bit is at most the number
--   tapped-less, lifted-less   taps make no more bits than the window has, and lifted no more than eight
--   tapped-bit                 the taps make the parities of all stages at once
--   parity-less                a parity is 0 or 1
--   divided-less               the data divided is eight bits
--   divided-only               eight bits that give the data, after eight others, are the data divided
--   divided-back-only          eight bits that give the data, before eight others, are the data divided back
--   untapped-short, -long      what undoes the taps of G1 of each code
--   unlifted-short, -long      what undoes them the other way
use mathlib.Core.Path.{◌≡◌, refl, sym, ◌∙◌, ap, ap₂}
use mathlib.Core.Bool.{true}
use mathlib.Core.List.{List}
use Prim.Native.Nat.{ℕ, zero, suc, ◌<◌, ◌≤◌, ◌+◌, ◌*◌, ◌-◌, ◌/◌, ◌%◌, ◌^◌}
use native.Mathlib.Omega.{arith}
use native.Mathlib.Nat.{mod-lt, zero-lt-suc, zero-div, mul_assoc, mul-div_cancel}
use lib.Bits.{bit_xor, xor_shr, xor_lt, xor_add_and, xor_shifted}
use lib.Pow.{pow_pos, pow_mono, pow-add, shr-shr, shr_le}
use lib.ListN.{get_or}
use Rattle.cells.specs.Places.{list_of, sum_of, same_list}
use Rattle.cells.proofs.Places.{list_of-at, sum_of-same, sum_of-add, sum_of-more, half-power, same_list-eq}
use Rattle.codes.specs.Taps.{parity_of}
use Rattle.codes.specs.Blocks.{tapped_of, lifted_of, untapped_of, unlifted_of, divided_of, divided_back_of, Gives}
use Rattle.codes.proofs.Taps.{parity-taps, low_bit}

-- BITS. A bit of a sum without carries is the sum of the bits mod 2
pub xor-bit : (a b p : ℕ) → bit_xor a b / 2 ^ p % 2 ≡ (a / 2 ^ p % 2 + b / 2 ^ p % 2) % 2
xor-bit a b p =
    let s : bit_xor (a / 2 ^ p) (b / 2 ^ p) % 2 ≡ (a / 2 ^ p % 2 + b / 2 ^ p % 2) % 2 = omega (arith, xor_add_and (a / 2 ^ p) (b / 2 ^ p)) in
    ap (λ (x : ℕ). x % 2) (xor_shr a b p) ∙ s

-- a bit of a number times a bit
times-bit : (v b p : ℕ) → b < 2 → v * b / 2 ^ p % 2 ≡ b * (v / 2 ^ p % 2)
times-bit v zero p h = let e : v * 0 ≡ 0 = omega arith in rw (e, zero-div (2 ^ p)) (omega arith)
times-bit v (suc zero) p h = let e : v * 1 ≡ v = omega arith in rw e (omega arith)
times-bit v (suc (suc b)) p h = absurd (let z : ⊥ = omega arith in z)

-- which is at most the number
pub times-le : (v b : ℕ) → b < 2 → v * b ≤ v
times-le v zero h = omega arith
times-le v (suc zero) h = omega arith
times-le v (suc (suc b)) h = absurd (let z : ⊥ = omega arith in z)

-- a bit times a sum mod 2
times-sum : (b x y : ℕ) → b < 2 → b * ((x + y) % 2) % 2 ≡ (b * x + b * y) % 2
times-sum zero x y h = omega arith
times-sum (suc zero) x y h = omega arith
times-sum (suc (suc b)) x y h = absurd (let z : ⊥ = omega arith in z)

-- a bit of a number is 0 or 1
bit-less : (x p : ℕ) → x / 2 ^ p % 2 < 2
bit-less x p = mod-lt (x / 2 ^ p) (zero-lt-suc 1)

-- numbers of n bits are the same where their bits are
bits-same : (n a b : ℕ) → a < 2 ^ n → b < 2 ^ n → ((p : ℕ) → p < n → a / 2 ^ p % 2 ≡ b / 2 ^ p % 2) → a ≡ b
bits-same zero a b h k e = omega arith
bits-same (suc n) a b h k e =
    let q : 2 ^ suc n ≡ 2 * 2 ^ n = omega arith in
    let z : a / 1 % 2 ≡ b / 1 % 2 = e 0 (omega arith) in
    let r : a / 2 ≡ b / 2 =
    bits-same n (a / 2) (b / 2) (omega arith) (omega arith) (λ p l. rw (half-power a p, half-power b p) at (e (suc p) (omega arith))) in
    omega arith

-- a sum mod 2 depends on its places mod 2
sum-odd : (n : ℕ) (f g : ℕ → ℕ) → ((i : ℕ) → f i % 2 ≡ g i % 2) → sum_of n f % 2 ≡ sum_of n g % 2
unfolding sum_of
sum-odd zero f g e = refl
sum-odd (suc n) f g e = omega (arith, e 0, sum-odd n (λ i. f (suc i)) (λ i. g (suc i)) (λ i. e (suc i)))

-- WHAT THE TAPS MAKE has no more bits than the window
pub tapped-less : (k taps step w n : ℕ) → w < 2 ^ k → tapped_of taps step w n < 2 ^ k
unfolding tapped_of
tapped-less k taps step w zero h = pow_pos k
tapped-less k taps step w (suc n) h =
    xor_lt k (tapped_of taps step w n) _ (tapped-less k taps step w n h)
    (omega (arith, times-le (w / 2 ^ (step * n)) (taps / 2 ^ n % 2) (bit-less taps n), shr_le w (step * n)))

-- lifted, eight bits
pub lifted-less : (taps m step w n : ℕ) → lifted_of taps m step w n < 256
unfolding lifted_of
lifted-less taps m step w zero = omega arith
lifted-less taps m step w (suc n) =
    let x : ℕ = w * 2 ^ (step * (m - n)) in
    xor_lt 8 (lifted_of taps m step w n) _ (lifted-less taps m step w n)
    (omega (arith, times-le (x % 256) (taps / 2 ^ n % 2) (bit-less taps n), mod-lt x (zero-lt-suc 255)))

-- its bits are sums mod 2
tapped-sum : (taps step w n p : ℕ)
    → tapped_of taps step w n / 2 ^ p % 2 ≡ sum_of n (λ i. taps / 2 ^ i % 2 * (w / 2 ^ (step * i + p) % 2)) % 2
unfolding tapped_of sum_of
tapped-sum taps step w zero p = rw (zero-div (2 ^ p))
tapped-sum taps step w (suc n) p =
    let t : ℕ = taps / 2 ^ n % 2 in
    let u : ℕ = w / 2 ^ (step * n) in
    let f : ℕ → ℕ = λ i. taps / 2 ^ i % 2 * (w / 2 ^ (step * i + p) % 2) in
    let e : u * t / 2 ^ p % 2 ≡ f n = times-bit u t p (bit-less taps n) ∙ ap (λ (x : ℕ). t * (x % 2)) (shr-shr w (step * n) p) in
    xor-bit (tapped_of taps step w n) (u * t) p ∙ omega (arith, tapped-sum taps step w n p, e, sum_of-more n f)

-- so are those of the bits lifted
lifted-sum : (taps m step w n p : ℕ)
    → lifted_of taps m step w n / 2 ^ p % 2 ≡ sum_of n (λ i. taps / 2 ^ i % 2 * ((w * 2 ^ (step * (m - i))) % 256 / 2 ^ p % 2)) % 2
unfolding lifted_of sum_of
lifted-sum taps m step w zero p = rw (zero-div (2 ^ p))
lifted-sum taps m step w (suc n) p =
    let t : ℕ = taps / 2 ^ n % 2 in
    let u : ℕ = (w * 2 ^ (step * (m - n))) % 256 in
    let f : ℕ → ℕ = λ i. taps / 2 ^ i % 2 * ((w * 2 ^ (step * (m - i))) % 256 / 2 ^ p % 2) in
    xor-bit (lifted_of taps m step w n) (u * t) p
    ∙ omega (arith, lifted-sum taps m step w n p, times-bit u t p (bit-less taps n), sum_of-more n f)

-- the taps make the parities of all stages at once
pub tapped-bit : (taps w p : ℕ) → taps < 128 → tapped_of taps 1 w 7 / 2 ^ p % 2 ≡ parity_of taps (w / 2 ^ p)
tapped-bit taps w p h =
    tapped-sum taps 1 w 7 p
    ∙ ap (λ (x : ℕ). x % 2) (sum_of-same 7 _ _ (λ i l.
    let e : 1 * i + p ≡ p + i = omega arith in
    ap (λ (x : ℕ). taps / 2 ^ i % 2 * (x % 2)) (ap (λ (k : ℕ). w / 2 ^ k) e ∙ sym (shr-shr w p i))))
    ∙ sym (parity-taps 7 taps (w / 2 ^ p) h)

-- a number lifted by eight places, and back by all but j of them
lift-back : (y j p : ℕ) → j ≤ 8 → y * 256 / 2 ^ (8 - j + p) ≡ y * 2 ^ j / 2 ^ p
lift-back y j p h =
    let e : j + (8 - j) ≡ 8 = omega arith in
    let s : 256 ≡ 2 ^ j * 2 ^ (8 - j) = sym (ap (λ (k : ℕ). 2 ^ k) e) ∙ pow-add 2 j (8 - j) in
    sym (shr-shr (y * 256) (8 - j) p)
    ∙ ap (λ (x : ℕ). x / 2 ^ p)
    (ap (λ (x : ℕ). y * x / 2 ^ (8 - j)) s ∙ ap (λ (x : ℕ). x / 2 ^ (8 - j)) (sym (mul_assoc y (2 ^ j) (2 ^ (8 - j))))
    ∙ mul-div_cancel (y * 2 ^ j) (pow_pos (8 - j)))

-- the bits lifted are the parities of the eight bits before eight zeros
lifted-bit : (taps m y p : ℕ) → taps < 2 ^ suc m → m ≤ 8 → p < 8
    → lifted_of taps m 1 y (suc m) / 2 ^ p % 2 ≡ parity_of taps (y * 256 / 2 ^ (8 - m + p))
lifted-bit taps m y p h k l =
    lifted-sum taps m 1 y (suc m) p
    ∙ ap (λ (x : ℕ). x % 2) (sum_of-same (suc m) _ _ (λ i r. ap (λ (x : ℕ). taps / 2 ^ i % 2 * x) (place i r)))
    ∙ sym (parity-taps (suc m) taps (y * 256 / 2 ^ (8 - m + p)) h)
  where
    place : (i : ℕ) → i < suc m → (y * 2 ^ (1 * (m - i))) % 256 / 2 ^ p % 2 ≡ y * 256 / 2 ^ (8 - m + p) / 2 ^ i % 2
    place i r =
        let e : 1 * (m - i) ≡ m - i = omega arith in
        let f : 8 - (m - i) + p ≡ 8 - m + p + i = omega arith in
        low_bit 8 p (y * 2 ^ (1 * (m - i))) l
        ∙ ap (λ (x : ℕ). x % 2)
        (ap (λ (j : ℕ). y * 2 ^ j / 2 ^ p) e ∙ sym (lift-back y (m - i) p (omega arith)) ∙ ap (λ (j : ℕ). y * 256 / 2 ^ j) f
        ∙ sym (shr-shr (y * 256) (8 - m + p) i))

-- PARITIES. A parity is 0 or 1
pub parity-less : (taps w : ℕ) → parity_of taps w < 2
unfolding parity_of
parity-less taps w = mod-lt _ (zero-lt-suc 1)

-- the parity of a sum without carries
parity-xor : (taps a b : ℕ) → taps < 128 → parity_of taps (bit_xor a b) ≡ (parity_of taps a + parity_of taps b) % 2
parity-xor taps a b h =
    parity-taps 7 taps (bit_xor a b) h
    ∙ sum-odd 7 _ (λ i. f i + g i) (λ i.
    ap (λ (x : ℕ). taps / 2 ^ i % 2 * x % 2) (xor-bit a b i) ∙ times-sum (taps / 2 ^ i % 2) _ (b / 2 ^ i % 2) (bit-less taps i))
    ∙ omega (arith, sum_of-add 7 f g, parity-taps 7 taps a h, parity-taps 7 taps b h)
  where
    f : ℕ → ℕ
    f i = taps / 2 ^ i % 2 * (a / 2 ^ i % 2)

    g : ℕ → ℕ
    g i = taps / 2 ^ i % 2 * (b / 2 ^ i % 2)

-- a window in two parts
parity-parts : (taps a b p : ℕ) → taps < 128 → b < 256
    → parity_of taps ((a * 256 + b) / 2 ^ p) ≡ (parity_of taps (a * 256 / 2 ^ p) + parity_of taps (b / 2 ^ p)) % 2
parity-parts taps a b p h l =
    ap (λ (w : ℕ). parity_of taps (w / 2 ^ p)) (sym (xor_shifted a 8 b l)) ∙ ap (parity_of taps) (xor_shr (a * 256) b p)
    ∙ parity-xor taps (a * 256 / 2 ^ p) (b / 2 ^ p) h

-- DIVISION. The quotient is eight bits
pub divided-less : (taps before d : ℕ) → d < 256 → divided_of taps before d < 256
unfolding divided_of untapped_of
divided-less taps before d h =
    tapped-less 8 taps 4 _ 7 (tapped-less 8 taps 2 _ 7 (tapped-less 8 taps 1 _ 7 (xor_lt 8 d _ h (mod-lt _ (zero-lt-suc 255)))))

-- the eight bits that give the data are the data divided
pub divided-only : (taps before d y : ℕ) → taps < 128 → ((y : ℕ) → y < 256 → untapped_of taps (tapped_of taps 1 y 7) ≡ y)
    → d < 256 → y < 256 → Gives taps (before * 256 + y) d 0 → y ≡ divided_of taps before d
unfolding divided_of
divided-only taps before d y h test k l g =
    sym (test y l)
    ∙ ap (untapped_of taps)
    (bits-same 8 _ _ (tapped-less 8 taps 1 y 7 l) (xor_lt 8 d _ k (mod-lt T (zero-lt-suc 255))) (λ p r.
    let a : ℕ = parity_of taps (before * 256 / 2 ^ p) in
    let b : ℕ = parity_of taps (y / 2 ^ p) in
    let e : 0 + p ≡ p = omega arith in
    let x : d / 2 ^ p % 2 ≡ (a + b) % 2 = sym (rw e at (g.at p r)) ∙ parity-parts taps before y p h l in
    let z : T % 256 / 2 ^ p % 2 ≡ a = low_bit 8 p T r ∙ tapped-bit taps (before * 256) p h in
    let s : b ≡ ((a + b) % 2 + a) % 2 = omega (arith, parity-less taps (y / 2 ^ p)) in
    tapped-bit taps y p h ∙ s ∙ sym (xor-bit d (T % 256) p ∙ ap₂ (λ (u v : ℕ). (u + v) % 2) x z)))
  where
    T : ℕ
    T = tapped_of taps 1 (before * 256) 7

-- the eight bits before that give the data are the data divided back
pub divided-back-only : (taps m after d y : ℕ) → taps < 2 ^ suc m → m ≤ 6
    → ((y : ℕ) → y < 256 → unlifted_of taps m (lifted_of taps m 1 y (suc m)) ≡ y)
    → after < 256 → y < 256 → Gives taps (y * 256 + after) d (8 - m) → y ≡ divided_back_of taps m after d
unfolding divided_back_of
divided-back-only taps m after d y h k test l r g =
    sym (test y r)
    ∙ ap (unlifted_of taps m)
    (bits-same 8 _ _ (lifted-less taps m 1 y (suc m))
    (xor_lt 8 (d / 2 ^ n % 256) _ (mod-lt _ (zero-lt-suc 255)) (omega (arith, shr_le T n, tapped-less 8 taps 1 after 7 l))) (λ p s.
    let a : ℕ = parity_of taps (y * 256 / 2 ^ (n + p)) in
    let b : ℕ = parity_of taps (after / 2 ^ (n + p)) in
    let x : d / 2 ^ n % 256 / 2 ^ p % 2 ≡ (a + b) % 2 =
    low_bit 8 p (d / 2 ^ n) s ∙ ap (λ (u : ℕ). u % 2) (shr-shr d n p) ∙ sym (g.at p s) ∙ parity-parts taps y after (n + p) small l in
    let z : T / 2 ^ n / 2 ^ p % 2 ≡ b = ap (λ (u : ℕ). u % 2) (shr-shr T n p) ∙ tapped-bit taps after (n + p) small in
    let q : a ≡ ((a + b) % 2 + b) % 2 = omega (arith, parity-less taps (y * 256 / 2 ^ (n + p))) in
    lifted-bit taps m y p h (omega arith) s ∙ q ∙ sym (xor-bit (d / 2 ^ n % 256) (T / 2 ^ n) p ∙ ap₂ (λ (u v : ℕ). (u + v) % 2) x z)))
  where
    n : ℕ
    n = 8 - m

    T : ℕ
    T = tapped_of taps 1 after 7

    small : taps < 128
    small = let e : suc m ≤ 7 = omega arith in omega (arith, pow_mono e)

-- COMPUTED TESTS. A function that is found to give back each number below n does so
same-each : (n : ℕ) (f : ℕ → ℕ) → same_list (list_of n f) (list_of n (λ i. i)) ≡ true → (i : ℕ) → i < n → f i ≡ i
same-each n f e i h =
    sym (list_of-at n f i 0 h) ∙ ap (λ (l : List ℕ). get_or l i 0) (same_list-eq (list_of n f) _ e) ∙ list_of-at n (λ i. i) i 0 h

-- what undoes the taps of G1 of code 3
pub untapped-short : (y : ℕ) → y < 256 → untapped_of 0o7 (tapped_of 0o7 1 y 7) ≡ y
unfolding same_list list_of tapped_of untapped_of
untapped-short = same-each 256 (λ y. untapped_of 0o7 (tapped_of 0o7 1 y 7)) refl

-- and of code 7
pub untapped-long : (y : ℕ) → y < 256 → untapped_of 0o117 (tapped_of 0o117 1 y 7) ≡ y
unfolding same_list list_of tapped_of untapped_of
untapped-long = same-each 256 (λ y. untapped_of 0o117 (tapped_of 0o117 1 y 7)) refl

-- the other way, with code 3
pub unlifted-short : (y : ℕ) → y < 256 → unlifted_of 0o7 2 (lifted_of 0o7 2 1 y 3) ≡ y
unfolding same_list list_of lifted_of unlifted_of
unlifted-short = same-each 256 (λ y. unlifted_of 0o7 2 (lifted_of 0o7 2 1 y 3)) refl

-- and with code 7
pub unlifted-long : (y : ℕ) → y < 256 → unlifted_of 0o117 6 (lifted_of 0o117 6 1 y 7) ≡ y
unfolding same_list list_of lifted_of unlifted_of
unlifted-long = same-each 256 (λ y. unlifted_of 0o117 6 (lifted_of 0o117 6 1 y 7)) refl
