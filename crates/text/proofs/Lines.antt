-- Lines 1 to 3, byte by byte and whole. A line 2 gives values exactly where it is the text of them.
--   values-of-text, text-of-values     LINE 2 IN FORM: the text of values of at most five digits gives them, and nothing else does
--   given-some                         what is given under a test that holds
--   same-lengths                       texts of two lengths differ
--   same_list-pointwise                the library's `==` of two texts
--   scan-next                          the values of a line, one byte on
--   values-none                        values of which each is 0
--   form-by                            what a line 2 gives, by the test that it meets
use mathlib.Core.Path.{◌≡◌, refl, sym, ◌∙◌, ap, subst}
use mathlib.Core.Bool.{Bool, true, false, cond, ◌&&◌, and-false}
use mathlib.Core.List.{List, [], ◌∷◌}
use mathlib.Core.Option.{none, some}
use Prim.Native.Nat.{ℕ, zero, suc, ◌+◌, ◌*◌, ◌/◌, ◌%◌, ◌<◌}
use native.Mathlib.Omega.{arith}
use lib.Dec.{eqb, ltb}
use Rattle.std.specs.Bool.{then_some}
use Rattle.std.specs.Cmp.Lexicographic.{pointwise}
use lib.ListN.{length, drop, get_or}
use borrow.Author.Tests.{eq-eqb, ne_eqb, ltb-true, lt-ltb}
use Rattle.cells.proofs.Places.{and_both, same_list-eq}
use Rattle.text.specs.Text.{onto, decimal, values_text}
use Rattle.cells.specs.Places.{same_list}
use Rattle.text.specs.Lines.{step_of, scan_of, no_values, five_digits, checked, values_of, form_of}
use Rattle.text.specs.declared.Values.{Values}
use Rattle.text.proofs.Text.{Size, small, large, size_of, onto-last, onto-more, onto-append, rest-next}

-- what is given under a test that holds
pub given-some : {A : Type 0} (t : Bool) (w v : A) → cond t (some w) none ≡ some v → (t ≡ true) × (w ≡ v)
given-some true w v e = (refl, cc)
given-some false w v e = (cc, cc)

-- TWO TEXTS. A text is the same as itself
same_refl : (a : List ℕ) → same_list a a ≡ true
unfolding same_list
same_refl [] = refl
same_refl (x ∷ a) = rw (eq-eqb x x refl, same_refl a)

-- texts of two lengths are not the same
pub same-lengths : (a b : List ℕ) → (length a ≡ length b → ⊥) → same_list a b ≡ false
unfolding same_list
same-lengths [] [] h = absurd (h refl)
same-lengths [] (y ∷ b) h = refl
same-lengths (x ∷ a) [] h = refl
same-lengths (x ∷ a) (y ∷ b) h = rw (same-lengths a b (λ e. h (ap suc e))) (and-false (eqb x y))

-- the library's `==` of two texts is whether they are the same
pub same_list-pointwise : (a b : List ℕ) → pointwise eqb a b ≡ same_list a b
unfolding same_list
same_list-pointwise [] [] = refl
same_list-pointwise [] (y ∷ b) = refl
same_list-pointwise (x ∷ a) [] = refl
same_list-pointwise (x ∷ a) (y ∷ b) = ap (λ (t : Bool). eqb x y && t) (same_list-pointwise a b)

-- THE VALUES of a line, one byte on
pub scan-next : (v : Values) (l : List ℕ) (i : ℕ) → i < length l → scan_of v (drop i l) ≡ scan_of (step_of v (get_or l i 0)) (drop (i + 1) l)
unfolding scan_of
scan-next v l i h = ap (scan_of v) (rest-next l i h)

abbrev three : ℕ → ℕ → ℕ → Values
three c b s = record { code = c; bytes = b; strips = s }

-- values of which each is 0
pub values-none : {v : Values} → v.code ≡ 0 → v.bytes ≡ 0 → v.strips ≡ 0 → v ≡ no_values
values-none {v} c b s = ap (λ (n : ℕ). three n v.bytes v.strips) c ∙ ap (λ (n : ℕ). three 0 n v.strips) b ∙ ap (three 0 0) s

-- a digit goes to the right of the last value
step-digit : (a b n d : ℕ) → d < 10 → n < 100000 → step_of (three a b n) (48 + d) ≡ three a b (n * 10 + d)
unfolding step_of
step-digit a b n d h g =
    let e : n % 100000 * 10 + (48 + d) % 16 ≡ n * 10 + d = omega arith in
    rw (ne_eqb (48 + d) 32 (λ z. omega arith)) (ap (three a b) e)

-- the digits of a number that starts after a space give the number
module _ (a b : ℕ) where
  abbrev Scanned : ℕ → ℕ → List ℕ → Type 0
  Scanned k n rest = scan_of (three a b 0) (onto k n rest) ≡ scan_of (three a b n) rest

  scan-number : (k n : ℕ) (rest : List ℕ) → n < k → n < 100000 → Scanned k n rest
  unfolding scan_of
  scan-number zero n rest h g = absurd (let z : ⊥ = omega arith in z)
  scan-number (suc k) n rest h g = by (λ m r h2 g2. scan-number k m r h2 g2) (size_of n)
    where
      by : ((m : ℕ) (r : List ℕ) → m < k → m < 100000 → Scanned k m r) → Size n → Scanned (suc k) n rest
      by ih (small s) =
          ap (scan_of (three a b 0)) (onto-last k n rest s)
          ∙ ap (λ (v : Values). scan_of v rest) (step-digit a b 0 n s (omega arith) ∙ ap (three a b) (omega arith))
      by ih (large s) =
          ap (scan_of (three a b 0)) (onto-more k n rest s)
          ∙ ih (n / 10) ((48 + n % 10) ∷ rest) (omega arith) (omega arith)
          ∙ ap (λ (v : Values). scan_of v rest) (step-digit a b (n / 10) (n % 10) (omega arith) (omega arith) ∙ ap (three a b) (omega arith))

-- the text of values holds these values
scan-text : (v : Values) → v.code < 100000 → v.bytes < 100000 → v.strips < 100000 → scan_of no_values (values_text v) ≡ v
unfolding values_text decimal scan_of step_of
scan-text v h h2 h3 =
    let c = v.code in
    let b = v.bytes in
    let s = v.strips in
    ap (scan_of no_values) (sym (onto-append (suc c) c _))
    ∙ scan-number 0 0 (suc c) c _ (omega arith) h
    ∙ ap (scan_of (three 0 c 0)) (sym (onto-append (suc b) b _))
    ∙ scan-number 0 c (suc b) b _ (omega arith) h2
    ∙ scan-number c b (suc s) s [] (omega arith) h3

-- LINE 2 IN FORM: the text of values of at most five digits gives them
pub values-of-text : (v : Values) → v.code < 100000 → v.bytes < 100000 → v.strips < 100000 → values_of (values_text v) ≡ some v
unfolding values_of checked five_digits
values-of-text v h h2 h3 =
    rw (scan-text v h h2 h3, lt-ltb v.code 100000 h, lt-ltb v.bytes 100000 h2, lt-ltb v.strips 100000 h3, same_refl (values_text v))

-- and a line that gives values is their text, of at most five digits each
pub text-of-values : (line : List ℕ) (v : Values) → values_of line ≡ some v
    → (line ≡ values_text v) × (v.code < 100000) × (v.bytes < 100000) × (v.strips < 100000)
unfolding values_of checked five_digits
text-of-values line v e =
    let w = scan_of no_values line in
    let p = given-some (five_digits w && same_list line (values_text w)) w v e in
    let q = and_both (five_digits w) (same_list line (values_text w)) p.0 in
    let f = and_both (ltb w.code 100000) (ltb w.bytes 100000 && ltb w.strips 100000) q.0 in
    let g = and_both (ltb w.bytes 100000) (ltb w.strips 100000) f.1 in
    subst (λ (x : Values). (line ≡ values_text x) × (x.code < 100000) × (x.bytes < 100000) × (x.strips < 100000)) p.1 (
      same_list-eq line (values_text w) q.1,
      ltb-true w.code 100000 f.0,
      ltb-true w.bytes 100000 g.0,
      ltb-true w.strips 100000 g.1,
    )

-- what a line 2 gives, by the test that it meets
pub form-by : (line : List ℕ) {v : Values} {t : Bool} → v ≡ scan_of no_values line → t ≡ five_digits v && same_list line (values_text v)
    → then_some t v ≡ form_of (values_of line)
unfolding values_of checked
form-by line {v} {t} e f = rw (← e, ← f) (by t)
  where
    by : (b : Bool) → then_some b v ≡ form_of (cond b (some v) none)
    by true = refl
    by false = refl
