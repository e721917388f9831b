-- Data in hexadecimal. A data line gives bytes exactly where it is the text of them.
--   data-of-text, text-of-data           DATA IN FORM: the text of bytes gives them, and nothing else does
--   all_hex-all                          the digits of a line
--   pair-more, pair-all                  the pairs of a line, one byte on, and all of them
--   data-odd, data-even                  whether a line is data, by the tests that it meets
--   data-kept, data-made, data-decoded   the data that a line leaves as they were, and that it makes
use mathlib.Core.Path.{◌≡◌, refl, sym, ◌∙◌, ap, subst}
use mathlib.Core.Bool.{Bool, true, false, ◌&&◌, ◌||◌}
use mathlib.Core.List.{List, [], ◌∷◌, ◌++◌, append_assoc, append-nil}
use mathlib.Core.Option.{some}
use Prim.Native.Nat.{ℕ, zero, suc, ◌+◌, ◌*◌, ◌/◌, ◌%◌, ◌≤◌, ◌<◌}
use native.Mathlib.Omega.{arith}
use native.Mathlib.Numerals.{add-one}
use Rattle.std.specs.List.{list_all}
use lib.Dec.{eqb, ltb, leb}
use lib.ListN.{length, take, drop, set, get_or, drop_of_length-le}
use lib.Seq.{take_all, take-suc-set}
use borrow.Author.Tests.{eq-eqb, ne_eqb, eqb-true, ltb-true, leb-true, lt-ltb, le-ltb, le-leb}
use Rattle.cells.specs.Places.{Each, no_more, and_each}
use Rattle.text.specs.Hex.{hex_digit, hex_text, is_hex, all_hex, nibble, pairs, is_data, content_of, decoded_of}
use Rattle.text.proofs.Text.{Size, small, large, size_of, rest-next}
use Rattle.cells.proofs.Places.{and_both}
use Rattle.text.proofs.Lines.{given-some}

-- THE DIGITS. Whether each byte of a line is one
pub all_hex-all : (l : List ℕ) → list_all is_hex l ≡ all_hex l
unfolding all_hex
all_hex-all [] = refl
all_hex-all (c ∷ l) = ap (λ (t : Bool). is_hex c && t) (all_hex-all l)

-- THE PAIRS, one byte more of the data
pairs_next : (l : List ℕ) (i : ℕ) → i + 1 < length l
    → pairs (drop i l) ≡ (nibble (get_or l i 0) * 16 + nibble (get_or l (i + 1) 0)) ∷ pairs (drop (i + 1 + 1) l)
unfolding pairs
pairs_next l i h = ap pairs (rest-next l i (omega arith) ∙ ap (λ (r : List ℕ). get_or l i 0 ∷ r) (rest-next l (i + 1) h))

pub pair-more : (line d : List ℕ) (k high low : ℕ) → k < length d → length line ≡ 2 * length d
    → high ≡ nibble (get_or line (2 * k) 0) → low ≡ nibble (get_or line (2 * k + 1) 0)
    → take k d ++ pairs (drop (2 * k) line) ≡ take (k + 1) (set d k (high * 16 + low)) ++ pairs (drop (2 * (k + 1)) line)
pair-more line d k high low h e eh el =
    let g : 2 * k + 1 < length line = omega arith in
    let n : 2 * (k + 1) ≡ 2 * k + 1 + 1 = omega arith in
    rw (pairs_next line (2 * k) g, add-one k, take-suc-set d k (high * 16 + low) h, append_assoc, ← add-one k, n, eh, el)

-- and all of them
pub pair-all : (line d : List ℕ) (k : ℕ) → length d ≤ k → length line ≤ 2 * k → take k d ++ pairs (drop (2 * k) line) ≡ d
unfolding pairs
pair-all line d k h h2 = rw (take_all k d h, drop_of_length-le line h2, append-nil)

-- whether a line is data, by the tests that it meets
pub data-odd : (n : ℕ) (line : List ℕ) → (length line ≡ 2 * n → ⊥) → is_data n line ≡ false
unfolding is_data
data-odd n line h = rw (ne_eqb (length line) (2 * n) h)

pub data-even : (n : ℕ) (line : List ℕ) (t : Bool) → length line ≡ 2 * n → t ≡ all_hex line → is_data n line ≡ t
unfolding is_data
data-even n line t h e = rw (eq-eqb (length line) (2 * n) h, ← e)

-- what a line that is no data leaves, and what one that is makes
pub data-kept : (before line : List ℕ) → is_data (length before) line ≡ false
    → (false ≡ is_data (length before) line) × (before ≡ decoded_of before line)
unfolding decoded_of
data-kept before line e = (sym e, rw e)

pub data-made : (before line : List ℕ) {after : List ℕ} → is_data (length before) line ≡ true → after ≡ pairs line
    → (true ≡ is_data (length before) line) × (after ≡ decoded_of before line)
unfolding decoded_of
data-made before line e m = (sym e, rw e m)

pub data-decoded : (before line : List ℕ) → is_data (length before) line ≡ true → decoded_of before line ≡ pairs line
unfolding decoded_of
data-decoded before line e = rw e

-- the digits from 0 to 9, and from a to f
hex_digit-low : (n : ℕ) → n < 10 → hex_digit n ≡ 48 + n
unfolding hex_digit
hex_digit-low n h = rw (lt-ltb n 10 h)

hex_digit-high : (n : ℕ) → 10 ≤ n → hex_digit n ≡ 87 + n
unfolding hex_digit
hex_digit-high n h = rw (le-ltb n 10 h)

hex-low : (c : ℕ) → 48 ≤ c → c < 58 → (is_hex c ≡ true) × (nibble c ≡ c % 16)
unfolding is_hex nibble
hex-low c h h2 = (rw (le-leb 48 c h, lt-ltb c 58 h2), rw (lt-ltb c 58 h2))

hex-high : (c : ℕ) → 97 ≤ c → c < 103 → (is_hex c ≡ true) × (nibble c ≡ (c % 16 + 9) % 16)
unfolding is_hex nibble
hex-high c h h2 =
    let g : 58 ≤ c = omega arith in
    let g2 : 48 ≤ c = omega arith in
    (rw (le-leb 48 c g2, le-ltb c 58 g, le-leb 97 c h, lt-ltb c 103 h2), rw (le-ltb c 58 g))

-- a digit of a number is a digit, with this number
digit-back : (n : ℕ) → n < 16 → (is_hex (hex_digit n) ≡ true) × (nibble (hex_digit n) ≡ n)
digit-back n h = by (size_of n)
  where
    by : Size n → (is_hex (hex_digit n) ≡ true) × (nibble (hex_digit n) ≡ n)
    by (small g) =
        let p = hex-low (48 + n) (omega arith) (omega arith) in
        let e : (48 + n) % 16 ≡ n = omega arith in
        (ap is_hex (hex_digit-low n g) ∙ p.0, ap nibble (hex_digit-low n g) ∙ p.1 ∙ e)
    by (large g) =
        let p = hex-high (87 + n) (omega arith) (omega arith) in
        let e : ((87 + n) % 16 + 9) % 16 ≡ n = omega arith in
        (ap is_hex (hex_digit-high n g) ∙ p.0, ap nibble (hex_digit-high n g) ∙ p.1 ∙ e)

-- a byte that is a digit is the digit of its number
hex-back : (c : ℕ) → is_hex c ≡ true → (hex_digit (nibble c) ≡ c) × (nibble c < 16)
unfolding is_hex
hex-back c e = go (leb 48 c && ltb c 58) (leb 97 c && ltb c 103) refl refl e
  where
    go : (a b : Bool) → (leb 48 c && ltb c 58) ≡ a → (leb 97 c && ltb c 103) ≡ b → (a || b) ≡ true
        → (hex_digit (nibble c) ≡ c) × (nibble c < 16)
    go true b ea eb e =
        let p = and_both (leb 48 c) (ltb c 58) ea in
        let h = leb-true 48 c p.0 in
        let h2 = ltb-true c 58 p.1 in
        let n = (hex-low c h h2).1 in
        let g : c % 16 < 10 = omega arith in
        let r : 48 + c % 16 ≡ c = omega arith in
        (ap hex_digit n ∙ hex_digit-low (c % 16) g ∙ r, omega arith)
    go false true ea eb e =
        let p = and_both (leb 97 c) (ltb c 103) eb in
        let h = leb-true 97 c p.0 in
        let h2 = ltb-true c 103 p.1 in
        let n = (hex-high c h h2).1 in
        let g : 10 ≤ (c % 16 + 9) % 16 = omega arith in
        let r : 87 + (c % 16 + 9) % 16 ≡ c = omega arith in
        (ap hex_digit n ∙ hex_digit-high ((c % 16 + 9) % 16) g ∙ r, omega arith)
    go false false ea eb e = let z : ◌≡◌ {A = ℕ} 0 1 = cc in absurd (omega arith)

-- the text of bytes: its length, its digits and its pairs
text-pairs : (d : List ℕ) → Each (λ b. b < 256) d
    → (length (hex_text d) ≡ 2 * length d) × (all_hex (hex_text d) ≡ true) × (pairs (hex_text d) ≡ d)
unfolding hex_text all_hex pairs
text-pairs [] no_more = (refl, refl, refl)
text-pairs (b ∷ d) (and_each h hs) =
    let p = text-pairs d hs in
    let u = digit-back (b / 16) (omega arith) in
    let l = digit-back (b % 16) (omega arith) in
    let e : b / 16 * 16 + b % 16 ≡ b = omega arith in
    (omega arith, rw (u.0, l.0) p.1, rw (u.1, l.1, p.2) (ap (λ (x : ℕ). x ∷ d) e))

-- DATA IN FORM: the text of bytes gives them
pub data-of-text : (d : List ℕ) → Each (λ b. b < 256) d → content_of (length d) (hex_text d) ≡ some d
unfolding content_of is_data
data-of-text d h = let p = text-pairs d h in rw (eq-eqb (length (hex_text d)) (2 * length d) p.0, p.1, p.2)

-- the pairs of a line of digits: their text, how many they are, and that they are bytes
abbrev TextOf : List ℕ → ℕ → List ℕ → Type 0
TextOf line n d = (line ≡ hex_text d) × (length d ≡ n) × Each (λ b. b < 256) d

pairs-text : (n : ℕ) (line : List ℕ) → length line ≡ 2 * n → all_hex line ≡ true → TextOf line n (pairs line)
unfolding hex_text all_hex pairs
pairs-text zero [] h e = (refl, refl, no_more)
pairs-text zero (a ∷ line) h e = absurd (let z : ⊥ = omega arith in z)
pairs-text (suc n) [] h e = absurd (let z : ⊥ = omega arith in z)
pairs-text (suc n) (a ∷ []) h e = absurd (let z : ⊥ = omega arith in z)
pairs-text (suc n) (a ∷ b ∷ line) h e =
    let p = and_both (is_hex a) (is_hex b && all_hex line) e in
    let q = and_both (is_hex b) (all_hex line) p.1 in
    let u = hex-back a p.0 in
    let l = hex-back b q.0 in
    let r = pairs-text n line (omega arith) q.1 in
    let eu : (nibble a * 16 + nibble b) / 16 ≡ nibble a = omega arith in
    let el : (nibble a * 16 + nibble b) % 16 ≡ nibble b = omega arith in
    let t : a ∷ b ∷ line ≡ hex_digit (nibble a) ∷ hex_digit (nibble b) ∷ hex_text (pairs line) = cc in
    (t ∙ rw (eu, el), ap suc r.1, and_each {g = nibble a * 16 + nibble b} (omega arith) r.2)

-- and a line that gives bytes is their text
pub text-of-data : (n : ℕ) (line d : List ℕ) → content_of n line ≡ some d → (line ≡ hex_text d) × (length d ≡ n) × Each (λ b. b < 256) d
unfolding content_of is_data
text-of-data n line d e =
    let p = given-some (eqb (length line) (2 * n) && all_hex line) (pairs line) d e in
    let q = and_both (eqb (length line) (2 * n)) (all_hex line) p.0 in
    subst (TextOf line n) p.1 (pairs-text n line (eqb-true (length line) (2 * n) q.0) q.1)
