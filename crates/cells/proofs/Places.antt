-- Lists, sums and numbers, made place by place.
--   length-list_of   list_of n f has n places, and f i at place i (list_of-at)
--   list_of-same     a list, a sum (sum_of-same) and a number (number_same) depend on their places alone
--   list_of-get_or   a list is the list of its places
--   sum_of-more      a sum by its last place; of zeros (-zero); of more places (-append); by parts (-parts); of two sums (-add)
--   sum_of-le        a sum of n numbers that are at most k each
--   number_more      a number by its last bit, and as the code adds them up (-next)
--   number-less      n bits make a number below 2 ^ n, which fits n bits and more (-fits)
--   one_shl          what 1 << i is
--   half-power       halving drops bit 0
--   store-more       what a loop that stores place by place has stored
--   same?            two numbers are the same, or not
--   each_first       what holds of every element holds of the first, and of the rest (each-rest); of a part (each_take, each-drop)
--   each-list_of     it holds of a list where it holds of every place
--   and_both         both of two tests hold
--   same_list-eq     lists that are found the same are the same
--   zeros-at         a list of zeros, read anywhere
use mathlib.Core.Path.{◌≡◌, refl, sym, ◌∙◌, ap, ap₂}
use mathlib.Core.Bool.{Bool, true, false, ◌&&◌}
use mathlib.Core.List.{List, [], ◌∷◌}
use mathlib.Core.Logic.{◌⊎◌, inl, inr, ⊎_elim}
use Prim.Native.Nat.{ℕ, zero, suc, ◌<◌, ◌≤◌, ◌+◌, ◌*◌, ◌/◌, ◌%◌, ◌^◌}
use native.Mathlib.Omega.{arith}
use native.Mathlib.Nat.{not-suc-le-zero, div-div-eq-div-mul, mul_assoc, mul_comm, pow-suc}
use lib.Pow.{pow_mono, shl_exact}
use lib.ListN.{length, get_or, take, drop, set, replicate}
use lib.Seq.{ext_get_or, get_or-set_same, get_or-set_other}
use lib.Dec.{eqb}
use borrow.Author.Count.{below_more}
use borrow.Author.Tests.{eqb-true}
use Rattle.cells.specs.Places.{list_of, sum_of, from_bits, Each, no_more, and_each, same_list}

module _ {A : Type 0} where
  -- n places
  pub length-list_of : (n : ℕ) (f : ℕ → A) → length (list_of n f) ≡ n
  unfolding list_of
  length-list_of zero f = refl
  length-list_of (suc n) f = ap suc (length-list_of n (λ i. f (suc i)))

  -- place i
  pub list_of-at : (n : ℕ) (f : ℕ → A) (i : ℕ) (d : A) → i < n → get_or (list_of n f) i d ≡ f i
  unfolding list_of
  list_of-at zero f i d h = absurd (not-suc-le-zero h)
  list_of-at (suc n) f zero d h = refl
  list_of-at (suc n) f (suc i) d h = list_of-at n (λ i. f (suc i)) i d (omega arith)

  -- the same places, the same list
  pub list_of-same : (n : ℕ) (f g : ℕ → A) → ((i : ℕ) → i < n → f i ≡ g i) → list_of n f ≡ list_of n g
  unfolding list_of
  list_of-same zero f g e = refl
  list_of-same (suc n) f g e =
      ap₂ (λ (x : A) (l : List A). x ∷ l) (e 0 (omega arith))
      (list_of-same n (λ i. f (suc i)) (λ i. g (suc i)) (λ i h. e (suc i) (omega arith)))

  -- a list is the list of its places
  pub list_of-get_or : (n : ℕ) (l : List A) (d : A) → length l ≡ n → list_of n (λ i. get_or l i d) ≡ l
  list_of-get_or n l d e =
      ext_get_or d _ l (length-list_of n _ ∙ sym e) (λ i h.
      let k : i < n = rw (length-list_of n (λ i. get_or l i d)) at h in
      list_of-at n _ i d k)

-- the same places, the same sum
pub sum_of-same : (n : ℕ) (f g : ℕ → ℕ) → ((i : ℕ) → i < n → f i ≡ g i) → sum_of n f ≡ sum_of n g
unfolding sum_of
sum_of-same zero f g e = refl
sum_of-same (suc n) f g e = omega (arith, e 0 (omega arith), sum_of-same n (λ i. f (suc i)) (λ i. g (suc i)) (λ i h. e (suc i) (omega arith)))

-- the same places, the same number
pub number_same : (n : ℕ) (f g : ℕ → ℕ) → ((i : ℕ) → i < n → f i ≡ g i) → from_bits n f ≡ from_bits n g
unfolding from_bits
number_same zero f g e = refl
number_same (suc n) f g e =
    omega (arith, e 0 (omega arith), number_same n (λ i. f (suc i)) (λ i. g (suc i)) (λ i h. e (suc i) (omega arith)))

-- a sum by its last place: what a loop adds at its last turn
pub sum_of-more : (n : ℕ) (f : ℕ → ℕ) → sum_of (suc n) f ≡ sum_of n f + f n
unfolding sum_of
sum_of-more zero f = omega arith
sum_of-more (suc n) f = omega (arith, sum_of-more n (λ i. f (suc i)))

-- a sum of n numbers that are at most k each
pub sum_of-le : (n k : ℕ) (f : ℕ → ℕ) → ((i : ℕ) → i < n → f i ≤ k) → sum_of n f ≤ n * k
unfolding sum_of
sum_of-le zero k f h = omega arith
sum_of-le (suc n) k f h = omega (arith, h 0 (omega arith), sum_of-le n k (λ i. f (suc i)) (λ i l. h (suc i) (omega arith)))

-- a sum of zeros
pub sum_of-zero : (n : ℕ) (f : ℕ → ℕ) → ((i : ℕ) → i < n → f i ≡ 0) → sum_of n f ≡ 0
unfolding sum_of
sum_of-zero zero f e = refl
sum_of-zero (suc n) f e = omega (arith, e 0 (omega arith), sum_of-zero n (λ i. f (suc i)) (λ i h. e (suc i) (omega arith)))

-- the sum of two sums
pub sum_of-add : (n : ℕ) (f g : ℕ → ℕ) → sum_of n (λ i. f i + g i) ≡ sum_of n f + sum_of n g
unfolding sum_of
sum_of-add zero f g = refl
sum_of-add (suc n) f g = omega (arith, sum_of-add n (λ i. f (suc i)) (λ i. g (suc i)))

-- a sum of n places, and of m more
pub sum_of-append : (n m : ℕ) (f : ℕ → ℕ) → sum_of (n + m) f ≡ sum_of n f + sum_of m (λ i. f (n + i))
unfolding sum_of
sum_of-append zero m f = let e : 0 + m ≡ m = omega arith in rw e (omega (arith, sum_of-same m f (λ i. f (0 + i)) (λ i h. ap f (omega arith))))
sum_of-append (suc n) m f =
    let e : suc n + m ≡ suc (n + m) = omega arith in
    let s : sum_of m (λ i. f (suc n + i)) ≡ sum_of m (λ i. f (suc (n + i))) = sum_of-same m _ _ (λ i h. ap f (omega arith)) in
    rw (e, s) (omega (arith, sum_of-append n m (λ i. f (suc i))))

-- a sum by parts of w places each
pub sum_of-parts : (w S : ℕ) (f : ℕ → ℕ) → sum_of (w * S) f ≡ sum_of S (λ j. sum_of w (λ c. f (w * j + c)))
unfolding sum_of
sum_of-parts w zero f = let e : w * 0 ≡ 0 = omega arith in rw e
sum_of-parts w (suc S) f =
    let e : w * suc S ≡ w + w * S = omega arith in
    let a : sum_of w f ≡ sum_of w (λ c. f (w * 0 + c)) = sum_of-same w _ _ (λ c h. ap f (omega arith)) in
    let b : sum_of S (λ j. sum_of w (λ c. f (w + (w * j + c)))) ≡ sum_of S (λ j. sum_of w (λ c. f (w * suc j + c))) =
    sum_of-same S _ _ (λ j h. sum_of-same w _ _ (λ c k. ap f (omega arith))) in
    rw e (omega (arith, sum_of-append w (w * S) f, sum_of-parts w S (λ i. f (w + i)), a, b))

-- NUMBERS. A number, times the next power
double-power : (x n : ℕ) → x * 2 ^ suc n ≡ 2 * (x * 2 ^ n)
double-power x n = ap (λ (y : ℕ). x * y) (pow-suc 2 n) ∙ sym (mul_assoc x (2 ^ n) 2) ∙ mul_comm (x * 2 ^ n) 2

-- a number grows by its last bit
number_more : (n : ℕ) (f : ℕ → ℕ) → from_bits (suc n) f ≡ from_bits n f + f n * 2 ^ n
unfolding from_bits
number_more zero f = omega arith
number_more (suc n) f = omega (arith, double-power (f (suc n)) n, number_more n (λ i. f (suc i)))

-- n bits make a number below 2 ^ n
pub number-less : (n : ℕ) (f : ℕ → ℕ) → ((i : ℕ) → f i < 2) → from_bits n f < 2 ^ n
unfolding from_bits
number-less zero f b = omega arith
number-less (suc n) f b = omega (arith, b 0, number-less n (λ i. f (suc i)) (λ i. b (suc i)))

-- the code's b << i for a bit b
bit-shl : (b i w : ℕ) → b < 2 → i < w → (b * 2 ^ i) % 2 ^ w ≡ b * 2 ^ i
bit-shl b i w h l = shl_exact 1 i w h (omega arith)

-- the code's 1 << i
pub one_shl : (i w : ℕ) → i < w → (1 * 2 ^ i) % 2 ^ w ≡ 2 ^ i
one_shl i w l = let e : 1 * 2 ^ i ≡ 2 ^ i = omega arith in bit-shl 1 i w (omega arith) l ∙ e

-- i bits added up and the next make i + 1 bits added up
pub number-next : (i w d b : ℕ) (f : ℕ → ℕ) → ((k : ℕ) → f k < 2) → i < w → d ≡ from_bits i f → b ≡ f i
    → d + (b * 2 ^ i) % 2 ^ w ≡ from_bits (i + 1) f
number-next i w d b f h l p q =
    let e : (b * 2 ^ i) % 2 ^ w ≡ f i * 2 ^ i = bit-shl b i w (rw q (h i)) l ∙ ap (λ (y : ℕ). y * 2 ^ i) q in
    let s : suc i ≡ i + 1 = omega arith in
    ap₂ ◌+◌ p e ∙ sym (number_more i f) ∙ ap (λ (k : ℕ). from_bits k f) s

-- at most w bits fit w bits
pub number_fits : (i w : ℕ) (f : ℕ → ℕ) → ((k : ℕ) → f k < 2) → i ≤ w → from_bits i f < 2 ^ w
number_fits i w f h l = omega (arith, number-less i f h, pow_mono l)

-- halving drops bit 0
pub half-power : (x j : ℕ) → x / 2 ^ suc j ≡ x / 2 / 2 ^ j
half-power x j = let e : 2 ^ suc j ≡ 2 * 2 ^ j = omega arith in ap (λ (d : ℕ). x / d) e ∙ sym (div-div-eq-div-mul x 2 (2 ^ j))

-- STORES. A loop that stores f k at each place k has stored one more
pub store-more : (r : List ℕ) (n x : ℕ) (f : ℕ → ℕ) → n < length r → x ≡ f n → ((k : ℕ) → k < n → get_or r k 0 ≡ f k)
    → (k : ℕ) → k < n + 1 → get_or (set r n x) k 0 ≡ f k
store-more r n x f h e p =
    below_more (λ (k : ℕ). get_or (set r n x) k 0 ≡ f k) n
    (λ k l. get_or-set_other r n k x 0 (λ z. omega arith) ∙ p k l) (get_or-set_same r n x 0 h ∙ e)

-- NUMBERS. Two are the same, or not
pub same? : (a b : ℕ) → (a ≡ b) ⊎ (a ≡ b → ⊥)
same? zero zero = inl refl
same? zero (suc b) = inr (λ e. omega arith)
same? (suc a) zero = inr (λ e. omega arith)
same? (suc a) (suc b) = ⊎_elim (λ e. inl (ap suc e)) (λ n. inr (λ e. n (omega arith))) (same? a b)

-- EACH. What holds of every element holds of the first
pub each_first : {G : Type 0} {P : G → Type 0} {g : G} {gs : List G} → Each P (g ∷ gs) → P g
each_first (and_each p ps) = p

-- and of every other
pub each-rest : {G : Type 0} {P : G → Type 0} {g : G} {gs : List G} → Each P (g ∷ gs) → Each P gs
each-rest (and_each p ps) = ps

-- of the first k, and of those after them
pub each_take : {A : Type 0} {P : A → Type 0} (k : ℕ) {l : List A} → Each P l → Each P (take k l)
each_take zero p = no_more
each_take (suc k) no_more = no_more
each_take (suc k) (and_each p ps) = and_each p (each_take k ps)

pub each-drop : {A : Type 0} {P : A → Type 0} (k : ℕ) {l : List A} → Each P l → Each P (drop k l)
each-drop zero p = p
each-drop (suc k) no_more = no_more
each-drop (suc k) (and_each p ps) = each-drop k ps

-- of a list made place by place it holds where it holds of every place
pub each-list_of : {A : Type 0} {P : A → Type 0} (n : ℕ) (f : ℕ → A) → ((i : ℕ) → i < n → P (f i)) → Each P (list_of n f)
unfolding list_of
each-list_of zero f h = no_more
each-list_of (suc n) f h = and_each (h 0 (omega arith)) (each-list_of n (λ i. f (suc i)) (λ i l. h (suc i) (omega arith)))

-- TESTS. Both of two tests hold
pub and_both : (a b : Bool) → (a && b) ≡ true → (a ≡ true) × (b ≡ true)
and_both true b e = (refl, e)
and_both false b e = (e, cc)

-- lists that are found the same are the same
pub same_list-eq : (a b : List ℕ) → same_list a b ≡ true → a ≡ b
unfolding same_list
same_list-eq [] [] e = refl
same_list-eq [] (y ∷ b) e = cc
same_list-eq (x ∷ a) [] e = cc
same_list-eq (x ∷ a) (y ∷ b) e = let p = and_both (eqb x y) (same_list a b) e in ap₂ ◌∷◌ (eqb-true x y p.0) (same_list-eq a b p.1)

-- a list of zeros, read anywhere
pub zeros-at : (n k : ℕ) → ◌≡◌ {A = ℕ} (get_or (replicate n 0) k 0) 0
zeros-at zero k = refl
zeros-at (suc n) zero = refl
zeros-at (suc n) (suc k) = zeros-at n k
