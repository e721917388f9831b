-- The text of a number digit by digit.
--   onto-last, onto-more, onto-append   the digits of a number below 10 and of another, and what follows them
--   Size, size_of                       a number is below 10 or not
--   digits_more                         a number of several digits is the others and the last
--   size-more, size-most, size-some     how many digits a number has
--   rest-next                           the rest of a line from a place is the byte there and the rest after it
use mathlib.Core.Path.{◌≡◌, refl, sym, ◌∙◌, ap}
use mathlib.Core.Bool.{Bool, true, false}
use mathlib.Core.List.{List, [], ◌∷◌, ◌++◌, append_assoc}
use Prim.Native.Nat.{ℕ, zero, suc, ◌+◌, ◌^◌, ◌/◌, ◌%◌, ◌<◌, ◌≤◌}
use native.Mathlib.Omega.{arith}
use native.Mathlib.Numerals.{add-one}
use lib.Dec.{ltb}
use lib.ListN.{length, drop, get_or, length-append}
use lib.Seq.{drop-cons}
use borrow.Author.Tests.{lt-ltb, le-ltb, ltb-true, ltb-false}
use Rattle.text.specs.Text.{onto, decimal}

-- the digits of a number below 10
pub onto-last : (k n : ℕ) (rest : List ℕ) → n < 10 → onto (suc k) n rest ≡ (48 + n) ∷ rest
unfolding onto
onto-last k n rest h = rw (lt-ltb n 10 h)

-- of another: the last digit in front of the rest, then the others
pub onto-more : (k n : ℕ) (rest : List ℕ) → 10 ≤ n → onto (suc k) n rest ≡ onto k (n / 10) ((48 + n % 10) ∷ rest)
unfolding onto
onto-more k n rest h = rw (le-ltb n 10 h)

-- a number is below 10 or not
pub data Size (n : ℕ) : Type 0 where
  small : n < 10 → Size n
  large : 10 ≤ n → Size n

pub size_of : (n : ℕ) → Size n
size_of n = by (ltb n 10) refl
  where
    by : (t : Bool) → ltb n 10 ≡ t → Size n
    by true e = small (ltb-true n 10 e)
    by false e = large (ltb-false n 10 e)

-- enough is enough: two counts that are both more than the number give the same text
onto_same : (j k n : ℕ) (rest : List ℕ) → n < j → n < k → onto j n rest ≡ onto k n rest
onto_same zero k n rest h h2 = absurd (let z : ⊥ = omega arith in z)
onto_same (suc j) zero n rest h h2 = absurd (let z : ⊥ = omega arith in z)
onto_same (suc j) (suc k) n rest h h2 = by (λ m r g g2. onto_same j k m r g g2) (size_of n)
  where
    by : ((m : ℕ) (r : List ℕ) → m < j → m < k → onto j m r ≡ onto k m r) → Size n → onto (suc j) n rest ≡ onto (suc k) n rest
    by ih (small g) = onto-last j n rest g ∙ sym (onto-last k n rest g)
    by ih (large g) = onto-more j n rest g ∙ ih (n / 10) ((48 + n % 10) ∷ rest) (omega arith) (omega arith) ∙ sym (onto-more k n rest g)

-- what follows the digits stays behind them
pub onto-append : (k n : ℕ) (rest : List ℕ) → onto k n rest ≡ onto k n [] ++ rest
unfolding onto
onto-append zero n rest = refl
onto-append (suc k) n rest = by (λ m r. onto-append k m r) (size_of n)
  where
    by : ((m : ℕ) (r : List ℕ) → onto k m r ≡ onto k m [] ++ r) → Size n → onto (suc k) n rest ≡ onto (suc k) n [] ++ rest
    by ih (small g) = onto-last k n rest g ∙ sym (ap (λ (l : List ℕ). l ++ rest) (onto-last k n [] g))
    by ih (large g) =
        onto-more k n rest g ∙ ih (n / 10) ((48 + n % 10) ∷ rest) ∙ sym (append_assoc (onto k (n / 10) []) ((48 + n % 10) ∷ []) rest)
        ∙ sym (ap (λ (l : List ℕ). l ++ rest) (onto-more k n [] g ∙ ih (n / 10) ((48 + n % 10) ∷ [])))

-- A NUMBER OF SEVERAL DIGITS is the others and the last
pub digits_more : (n : ℕ) (rest : List ℕ) → 10 ≤ n → onto (suc n) n rest ≡ onto (suc (n / 10)) (n / 10) ((48 + n % 10) ∷ rest)
digits_more n rest h = onto-more n n rest h ∙ onto_same n (suc (n / 10)) (n / 10) ((48 + n % 10) ∷ rest) (omega arith) (omega arith)

-- its text has one digit more
pub size-more : (n : ℕ) → 10 ≤ n → length (decimal n) ≡ length (decimal (n / 10)) + 1
unfolding decimal
size-more n h =
    ap length (digits_more n [] h ∙ onto-append (suc (n / 10)) (n / 10) ((48 + n % 10) ∷ []))
    ∙ length-append (onto (suc (n / 10)) (n / 10) []) ((48 + n % 10) ∷ [])

-- a number below 10 has one digit
size-last : (n : ℕ) → n < 10 → length (decimal n) ≡ 1
unfolding decimal
size-last n h = ap length (onto-last n n [] h)

-- a number below 10 ^ (k + 1) has at most k + 1 digits
pub size-most : (k n : ℕ) → n < 10 ^ suc k → length (decimal n) ≤ suc k
size-most zero n h = omega (arith, size-last n h)
size-most (suc k) n h = by (λ m g. size-most k m g) (size_of n)
  where
    by : ((m : ℕ) → m < 10 ^ suc k → length (decimal m) ≤ suc k) → Size n → length (decimal n) ≤ suc (suc k)
    by ih (small g) = omega (arith, size-last n g)
    by ih (large g) =
        let e : n / 10 < 10 ^ suc k = omega arith in
        omega (arith, size-more n g, ih (n / 10) e)

-- a number has a digit
pub size-some : (n : ℕ) → 1 ≤ length (decimal n)
size-some n = by (size_of n)
  where
    by : Size n → 1 ≤ length (decimal n)
    by (small g) = omega (arith, size-last n g)
    by (large g) = omega (arith, size-more n g)

-- the rest from a place is the byte there and the rest after it
pub rest-next : (l : List ℕ) (i : ℕ) → i < length l → drop i l ≡ get_or l i 0 ∷ drop (i + 1) l
rest-next l i h = drop-cons l i 0 h ∙ rw (add-one i)
