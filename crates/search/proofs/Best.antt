-- Laws of best solutions: the better of two solves either of two problems, and two one after the other solve the product.
--   no-worse-refl                     a solution is no worse than itself
--   solves-either, solves-product, solves-empty   what solves two problems solves either of them, their product, and nothing at all is free
--   best-strict, settles-solves       the strictly cheapest is the best, so what settles a problem solves it
--   settles-product, -empty, -iff     the product, the empty problem and a problem in other words, strictly
--   none-valid, the-best, some-none   none says that nothing is valid, some that it is the best, and they differ
--   cost-least, levels-first          no valid levels cost less, and of those as cheap none is lower at the first cell that differs
--   solves-iff, solves-unique         a problem in other words has the same solution, and it has one only
--   Joined, joined-both               where two one after the other are open, both are
use mathlib.Core.Path.{◌≡◌, refl, sym, ◌∙◌, ap, ap₂, subst}
use mathlib.Core.Bool.{Bool, true, false, cond, ◌&&◌, ◌||◌, true≢false, false≢true}
use mathlib.Core.List.{List, [], ◌∷◌, ◌++◌}
use mathlib.Core.Option.{Option, none, some, some-injective}
use Prim.Native.Nat.{ℕ, zero, suc, ◌<◌, ◌≤◌, ◌+◌}
use native.Mathlib.Omega.{arith}
use native.Mathlib.Nat.{lt_trans, lt_irrefl, not-suc-le-zero}
use mathlib.Core.Logic.{◌⊎◌, inl, inr, ⊎_elim, ◌↔◌}
use lib.Dec.{ltb, eqb}
use lib.ListN.{length, get_or}
use borrow.Author.Tests.{ltb-true, ltb-false, eqb-true, eqb-false}
use Rattle.search.specs.Best.{LexLe, done, lower, same, NoWorse, cheaper, tied, Problem, Solution, Best, Solves, nothing, just}
use Rattle.search.specs.Best.{Settles, unsolved, sole, Product, Width, Empty, empty, Either, digit, LexLower}
use Rattle.search.specs.Trellis.{before, lexltb, beats, better, joined, free}

-- the order
lex-refl : (x : List ℕ) → LexLe x x
lex-refl [] = done
lex-refl (x ∷ xs) = same refl (lex-refl xs)

-- the order is transitive
lex-trans : {x y z : List ℕ} → LexLe x y → LexLe y z → LexLe x z
lex-trans done q = done
lex-trans (lower p) (lower q) = lower (lt_trans p q)
lex-trans (lower {x = a} p) (same e q) = lower (subst (λ (n : ℕ). a < n) e p)
lex-trans (same d p) (lower {y = c} q) = lower (subst (λ (n : ℕ). n < c) (sym d) q)
lex-trans (same d p) (same e q) = same (d ∙ e) (lex-trans p q)

-- lists of the same length, one after the other
lex-append : {x y v w : List ℕ} → length x ≡ length y → LexLe x y → LexLe v w → LexLe (x ++ v) (y ++ w)
lex-append {y = []} l done q = q
lex-append {y = b ∷ ys} l done q = let z : ◌≡◌ {A = ℕ} 0 (suc (length ys)) = l in absurd (omega arith)
lex-append l (lower p) q = lower p
lex-append {v = v} {w = w} l (same {xs = xs} {ys = ys} e p) q =
    let k : length xs ≡ length ys = omega arith in
    same e (lex-append {v = v} {w = w} k p q)

-- the tests decide the orders
before-true : (x y : ℕ) (r : Bool) → before x y r ≡ true → (x < y) ⊎ ((x ≡ y) × (r ≡ true))
unfolding before
before-true x y r = go (ltb x y) (eqb x y) r refl refl
  where
    go : (t s r : Bool) → ltb x y ≡ t → eqb x y ≡ s → (t || s && r) ≡ true → (x < y) ⊎ ((x ≡ y) × (r ≡ true))
    go true s r p q h = inl (ltb-true x y p)
    go false true r p q h = inr (eqb-true x y q, h)
    go false false r p q h = absurd (false≢true h)

before-false : (x y : ℕ) (r : Bool) → before x y r ≡ false → (y < x) ⊎ ((y ≡ x) × (r ≡ false))
unfolding before
before-false x y r = go (ltb x y) (eqb x y) r refl refl
  where
    above : ltb x y ≡ false → eqb x y ≡ false → y < x
    above p q =
        let h : y ≤ x = ltb-false x y p in
        let k : x ≡ y → ⊥ = eqb-false x y q in
        omega arith

    go : (t s r : Bool) → ltb x y ≡ t → eqb x y ≡ s → (t || s && r) ≡ false → (y < x) ⊎ ((y ≡ x) × (r ≡ false))
    go true s r p q h = absurd (true≢false h)
    go false true r p q h = inr (sym (eqb-true x y q), h)
    go false false r p q h = inl (above p q)

lex-true : (x y : List ℕ) → lexltb x y ≡ true → LexLe x y
unfolding lexltb
lex-true x [] e = absurd (false≢true e)
lex-true [] (b ∷ y) e = done
lex-true (a ∷ x) (b ∷ y) e =
    let f : lexltb x y ≡ true → LexLe x y = lex-true x y in
    ⊎_elim (λ p. lower p) (λ p. same p.0 (f p.1)) (before-true a b (lexltb x y) e)

lex-false : (x y : List ℕ) → lexltb x y ≡ false → LexLe y x
unfolding lexltb
lex-false x [] e = done
lex-false [] (b ∷ y) e = absurd (true≢false e)
lex-false (a ∷ x) (b ∷ y) e =
    let f : lexltb x y ≡ false → LexLe y x = lex-false x y in
    ⊎_elim (λ p. lower p) (λ p. same p.0 (f p.1)) (before-false a b (lexltb x y) e)

-- no worse
pub no-worse-refl : (c : ℕ) (x : List ℕ) → NoWorse c x c x
no-worse-refl c x = tied refl (lex-refl x)

-- and so no dearer
pub no-worse-cost : {c d : ℕ} {x y : List ℕ} → NoWorse c x d y → c ≤ d
no-worse-cost (cheaper h) = omega arith
no-worse-cost (tied h m) = omega arith

-- no worse is transitive
no-worse-trans : {c d e : ℕ} {x y z : List ℕ} → NoWorse c x d y → NoWorse d y e z → NoWorse c x e z
no-worse-trans (cheaper p) (cheaper q) = cheaper (omega arith)
no-worse-trans (cheaper p) (tied q m) = cheaper (omega arith)
no-worse-trans (tied p l) (cheaper q) = cheaper (omega arith)
no-worse-trans (tied p l) (tied q m) = tied (p ∙ q) (lex-trans l m)

no-worse-join : {c d e f : ℕ} {x y v w : List ℕ} → length x ≡ length y → NoWorse c x d y → NoWorse e v f w
    → NoWorse (c + e) (x ++ v) (d + f) (y ++ w)
no-worse-join l (cheaper p) (cheaper q) = cheaper (omega arith)
no-worse-join l (cheaper p) (tied q m) = cheaper (omega arith)
no-worse-join l (tied p k) (cheaper q) = cheaper (omega arith)
no-worse-join l (tied p k) (tied q m) = tied (ap₂ (λ (a b : ℕ). a + b) p q) (lex-append l k m)

-- what a test of two solutions says
pub beats-true : (a b : Solution) → beats a b ≡ true → NoWorse a.cost a.levels b.cost b.levels
unfolding beats
beats-true a b e =
    ⊎_elim (λ p. cheaper p) (λ p. tied p.0 (lex-true a.levels b.levels p.1))
    (before-true a.cost b.cost (lexltb a.levels b.levels) e)

pub beats-false : (a b : Solution) → beats a b ≡ false → NoWorse b.cost b.levels a.cost a.levels
unfolding beats
beats-false a b e =
    ⊎_elim (λ p. cheaper p) (λ p. tied p.0 (lex-false a.levels b.levels p.1))
    (before-false a.cost b.cost (lexltb a.levels b.levels) e)

-- either of two problems
best-either : (A : Bool → Problem) (a b : Solution) (t : Bool) → beats b a ≡ t → Best (A false) a → Best (A true) b
    → Best (Either A) (cond t b a)
best-either A a b true e p q = record { valid = digit true q.valid; least = go }
  where
    go : (d : ℕ) (y : List ℕ) → Either A d y → NoWorse b.cost b.levels d y
    go d y (digit true w) = q.least d y w
    go d y (digit false w) = no-worse-trans (beats-true b a e) (p.least d y w)
best-either A a b false e p q = record { valid = digit false p.valid; least = go }
  where
    go : (d : ℕ) (y : List ℕ) → Either A d y → NoWorse a.cost a.levels d y
    go d y (digit true w) = no-worse-trans (beats-false b a e) (q.least d y w)
    go d y (digit false w) = p.least d y w

-- the better of two solutions solves either of two problems
pub solves-either : (A : Bool → Problem) {r s : Option Solution} → Solves (A false) r → Solves (A true) s → Solves (Either A) (better r s)
unfolding better
solves-either A (nothing p) (nothing q) = nothing go
  where
    go : (d : ℕ) (y : List ℕ) → Either A d y → ⊥
    go d y (digit true w) = q d y w
    go d y (digit false w) = p d y w
solves-either A (nothing p) (just {a = a} q) = just (record { valid = digit true q.valid; least = go })
  where
    go : (d : ℕ) (y : List ℕ) → Either A d y → NoWorse a.cost a.levels d y
    go d y (digit true w) = q.least d y w
    go d y (digit false w) = absurd (p d y w)
solves-either A (just {a = a} p) (nothing q) = just (record { valid = digit false p.valid; least = go })
  where
    go : (d : ℕ) (y : List ℕ) → Either A d y → NoWorse a.cost a.levels d y
    go d y (digit true w) = absurd (q d y w)
    go d y (digit false w) = p.least d y w
solves-either A (just {a = a} p) (just {a = b} q) = just (best-either A a b (beats b a) refl p q)

-- the product
best-product : (k : ℕ) {A B : Problem} {a b : Solution} → Width k A → Best A a → Best B b
    → Best (Product A B) (record { cost = a.cost + b.cost; levels = a.levels ++ b.levels })
best-product k {A} {B} {a} {b} l p q = record { valid = pair; least = go }
  where
    pair : Product A B (a.cost + b.cost) (a.levels ++ b.levels)
    pair = record {
      cost₁ = a.cost;
      levels₁ = a.levels;
      cost₂ = b.cost;
      levels₂ = b.levels;
      valid₁ = p.valid;
      valid₂ = q.valid;
      sum = refl;
      append = refl;
    }

    go : (d : ℕ) (y : List ℕ) → Product A B d y → NoWorse (a.cost + b.cost) (a.levels ++ b.levels) d y
    go d y w =
        let e : length a.levels ≡ length w.levels₁ = l.width _ _ p.valid ∙ sym (l.width _ _ w.valid₁) in
        rw (w.sum, w.append) (no-worse-join e (p.least _ _ w.valid₁) (q.least _ _ w.valid₂))

-- solutions one after the other solve the product
pub solves-product : (k : ℕ) {A B : Problem} {r s : Option Solution} → Width k A → Solves A r → Solves B s
    → Solves (Product A B) (joined r s)
unfolding joined
solves-product k l (nothing p) q = nothing (λ d y w. p w.cost₁ w.levels₁ w.valid₁)
solves-product k l (just p) (nothing q) = nothing (λ d y w. q w.cost₂ w.levels₂ w.valid₂)
solves-product k l (just p) (just q) = just (best-product k l p q)

-- the empty problem has the free solution
pub solves-empty : Solves Empty (some free)
solves-empty = just (record { valid = empty; least = go })
  where
    go : (d : ℕ) (y : List ℕ) → Empty d y → NoWorse 0 [] d y
    go d y empty = no-worse-refl 0 []

-- the strictly cheapest is the best
pub best-strict : {A : Problem} (a : Solution) → A a.cost a.levels
    → ((d : ℕ) (y : List ℕ) → A d y → (a.cost < d) ⊎ ((a.cost ≡ d) × (a.levels ≡ y))) → Best A a
best-strict {A} a v l = record { valid = v; least = λ d y w. ⊎_elim (λ p. cheaper p) (λ p. tied p.0 (rw p.1 (lex-refl y))) (l d y w) }

-- STRICTLY: what settles a problem solves it; products, other words, and the empty problem
pub settles-solves : {A : Problem} {r : Option Solution} → Settles A r → Solves A r
settles-solves (unsolved p) = nothing p
settles-solves (sole {a = a} v l) = just (best-strict a v l)

-- the product, strictly
pub settles-product : {A B : Problem} {r s : Option Solution} → Settles A r → Settles B s → Settles (Product A B) (joined r s)
unfolding joined
settles-product (unsolved p) q = unsolved (λ d y w. p w.cost₁ w.levels₁ w.valid₁)
settles-product (sole v l) (unsolved q) = unsolved (λ d y w. q w.cost₂ w.levels₂ w.valid₂)
settles-product {A} {B} (sole {a = a} v l) (sole {a = b} v' l') =
    sole (record {
      cost₁ = a.cost;
      levels₁ = a.levels;
      cost₂ = b.cost;
      levels₂ = b.levels;
      valid₁ = v;
      valid₂ = v';
      sum = refl;
      append = refl;
    }) (λ d y w. go d y w (l _ _ w.valid₁) (l' _ _ w.valid₂))
  where
    go : (d : ℕ) (y : List ℕ) (w : Product A B d y) → (a.cost < w.cost₁) ⊎ ((a.cost ≡ w.cost₁) × (a.levels ≡ w.levels₁))
        → (b.cost < w.cost₂) ⊎ ((b.cost ≡ w.cost₂) × (b.levels ≡ w.levels₂))
        → (a.cost + b.cost < d) ⊎ ((a.cost + b.cost ≡ d) × (a.levels ++ b.levels ≡ y))
    go d y w (inl p) (inl q) = inl (omega (arith, w.sum))
    go d y w (inl p) (inr q) = inl (omega (arith, w.sum))
    go d y w (inr p) (inl q) = inl (omega (arith, w.sum))
    go d y w (inr p) (inr q) = inr (omega (arith, w.sum), ap₂ (λ (u v : List ℕ). u ++ v) p.1 q.1 ∙ sym w.append)

-- the empty problem, strictly
pub settles-empty : Settles Empty (some free)
settles-empty = sole empty go
  where
    go : (d : ℕ) (y : List ℕ) → Empty d y → (0 < d) ⊎ ((0 ≡ d) × ([] ≡ y))
    go d y empty = inr (refl, refl)

-- a problem put in other words, strictly
pub settles-iff : {A B : Problem} {r : Option Solution} → ((d : ℕ) (y : List ℕ) → A d y ↔ B d y) → Settles A r → Settles B r
settles-iff f (unsolved p) = unsolved (λ d y w. p d y ((f d y).1 w))
settles-iff f (sole v l) = sole ((f _ _).0 v) (λ d y w. l d y ((f d y).1 w))

-- a solution is not none, nor is anything else that there is
pub some-none : {A : Type 0} (a : A) → some a ≡ none → ⊥
some-none a e = let z : ◌≡◌ {A = ℕ} 0 1 = cc in omega arith

-- what a solution says, in plain words
lex-lower : {x y : List ℕ} → LexLe x y → length x ≡ length y → (x ≡ y → ⊥) → LexLower x y
lex-lower {y = []} done e n = absurd (n refl)
lex-lower {y = b ∷ ys} done e n = let z : ◌≡◌ {A = ℕ} 0 (suc (length ys)) = e in absurd (omega arith)
lex-lower (lower p) e n = record { place = 0; agree = λ j h. absurd (not-suc-le-zero h); less = p }
lex-lower (same {x = x} {y = y} {xs = xs} {ys = ys} d p) e n =
    let k : length xs ≡ length ys = omega arith in
    let m : xs ≡ ys → ⊥ = λ f. n (ap₂ (λ (a : ℕ) (l : List ℕ). a ∷ l) d f) in
    let r : LexLower xs ys = lex-lower p k m in
    record { place = suc r.place; agree = go r; less = r.less }
  where
    go : (r : LexLower xs ys) (j : ℕ) → j < suc r.place → get_or (x ∷ xs) j 0 ≡ get_or (y ∷ ys) j 0
    go r zero h = d
    go r (suc j) h = r.agree j (omega arith)

module _ {A : Problem} where
  pub none-valid : Solves A none → (d : ℕ) (y : List ℕ) → A d y → ⊥
  none-valid (nothing p) = p

  -- some says that it is the best
  pub the-best : {a : Solution} → Solves A (some a) → Best A a
  the-best (just p) = p

  -- no valid level list is cheaper than the best
  pub cost-least : {a : Solution} → Best A a → (d : ℕ) (y : List ℕ) → A d y → a.cost ≤ d
  cost-least p d y w = no-worse-cost (p.least d y w)

  -- of those as cheap, the best has the lower level where they first differ
  pub levels-first : (k : ℕ) {a : Solution} → Width k A → Best A a → (d : ℕ) (y : List ℕ) → A d y → d ≡ a.cost → (a.levels ≡ y → ⊥)
      → LexLower a.levels y
  levels-first k {a} l p d y w e n = go (p.least d y w)
    where
      go : NoWorse a.cost a.levels d y → LexLower a.levels y
      go (cheaper h) = absurd (omega arith)
      go (tied h m) = lex-lower m (l.width _ _ p.valid ∙ sym (l.width _ _ w)) n

-- the best solution is one
lex-antisym : {x y : List ℕ} → LexLe x y → LexLe y x → x ≡ y
lex-antisym done done = refl
lex-antisym (lower p) (lower q) = absurd (lt_irrefl _ (lt_trans p q))
lex-antisym (lower p) (same e q) = absurd (omega arith)
lex-antisym (same e p) (lower q) = absurd (omega arith)
lex-antisym (same e p) (same f q) = ap₂ (λ (a : ℕ) (l : List ℕ). a ∷ l) e (lex-antisym p q)

-- two best solutions are the same
best-unique : {A : Problem} {a b : Solution} → Best A a → Best A b → a ≡ b
best-unique {A} {a} {b} p q = go (p.least _ _ q.valid) (q.least _ _ p.valid)
  where
    go : NoWorse a.cost a.levels b.cost b.levels → NoWorse b.cost b.levels a.cost a.levels → a ≡ b
    go (cheaper h) (cheaper k) = absurd (omega arith)
    go (cheaper h) (tied k m) = absurd (omega arith)
    go (tied h m) (cheaper k) = absurd (omega arith)
    go (tied h m) (tied k n) = let e : a.levels ≡ b.levels = lex-antisym m n in λ i. record { cost = h i; levels = e i }

-- a problem put in other words has the same solution
pub solves-iff : {A B : Problem} {r : Option Solution} → ((d : ℕ) (y : List ℕ) → A d y ↔ B d y) → Solves A r → Solves B r
solves-iff f (nothing p) = nothing (λ d y w. p d y ((f d y).1 w))
solves-iff f (just p) = just (record { valid = (f _ _).0 p.valid; least = λ d y w. p.least d y ((f d y).1 w) })

-- a problem has one solution
pub solves-unique : {A : Problem} {r s : Option Solution} → Solves A r → Solves A s → r ≡ s
solves-unique (nothing p) (nothing q) = refl
solves-unique (nothing p) (just q) = absurd (p _ _ q.valid)
solves-unique (just p) (nothing q) = absurd (q _ _ p.valid)
solves-unique (just p) (just q) = ap some (best-unique p q)

-- what a solution made of two, one after the other, is made of
pub record Joined (r q : Option Solution) (a : Solution) : Type 0 where
  pub first : Solution
  pub second : Solution
  pub left : r ≡ some first
  pub right : q ≡ some second
  pub append : a.levels ≡ first.levels ++ second.levels

-- where two one after the other are open, both are
pub joined-both : (r q : Option Solution) (a : Solution) → joined r q ≡ some a → Joined r q a
unfolding joined
joined-both none q a e = absurd (some-none a (sym e))
joined-both (some b) none a e = absurd (some-none a (sym e))
joined-both (some b) (some c) a e = record {
  first = b;
  second = c;
  left = refl;
  right = refl;
  append = ap (λ (z : Solution). z.levels) (sym (some-injective _ _ e));
}
