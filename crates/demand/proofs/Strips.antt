-- Parts of one width, one after the other: what is valid for all of them is what is valid for each at its place, and the first that is
-- closed.
--   Parts, all-parts, parts_all   what is valid for all is valid for each at its place
--   ClosedAt, closed_at           the first part for which nothing is valid
--   PartOf, all-each              a solution of all parts has one of each
use mathlib.Core.Path.{◌≡◌, refl, sym, ◌∙◌, ap}
use mathlib.Core.List.{List, [], ◌∷◌, ◌++◌}
use mathlib.Core.Option.{Option, none, some, some-injective}
use Prim.Native.Nat.{ℕ, zero, suc, ◌<◌, ◌+◌, ◌*◌}
use native.Mathlib.Omega.{arith}
use native.Mathlib.Nat.{not-suc-le-zero}
use lib.ListN.{length, take, drop, take-append-drop, length-append, length-drop}
use lib.Seq.{take_at, drop_at, drop-drop}
use Rattle.cells.specs.Places.{list_of, sum_of}
use Rattle.search.specs.Best.{Problem, Solution, empty, Width, All, FirstClosed, here, later}
use Rattle.search.specs.Trellis.{joined, all}
use Rattle.search.proofs.Best.{some-none}

-- c at place 0, and g after it
cons : ℕ → (ℕ → ℕ) → ℕ → ℕ
cons c g zero = c
cons c g (suc j) = g j

module _ (problem : ℕ → Problem) (w : ℕ) where
  -- S parts: part j is valid at its place, and the costs add up
  pub record Parts (S : ℕ) (f : ℕ → ℕ) (c : ℕ) (y : List ℕ) : Type 0 where
    pub costs : ℕ → ℕ
    pub sum : c ≡ sum_of S costs
    pub size : length y ≡ w * S
    pub valid : (j : ℕ) → j < S → problem (f j) (costs j) (take w (drop (w * j) y))

  -- one part more in front
  front : (S : ℕ) (f : ℕ → ℕ) (c₁ c₂ : ℕ) (y₁ y₂ : List ℕ) → length y₁ ≡ w → problem (f 0) c₁ y₁ → Parts S (λ i. f (suc i)) c₂ y₂
      → Parts (suc S) f (c₁ + c₂) (y₁ ++ y₂)
  unfolding cons sum_of
  front S f c₁ c₂ y₁ y₂ l p q = record {
    costs = cons c₁ q.costs;
    sum = ap (λ (k : ℕ). c₁ + k) q.sum;
    size = length-append y₁ y₂ ∙ omega (arith, q.size);
    valid = valid;
  }
    where
      valid : (j : ℕ) → j < suc S → problem (f j) (cons c₁ q.costs j) (take w (drop (w * j) (y₁ ++ y₂)))
      valid zero h = let e : w * 0 ≡ 0 = omega arith in rw (e, take_at y₁ y₂ w l) p
      valid (suc j) h =
          let e : w * suc j ≡ w + w * j = omega arith in
          let d : drop (w + w * j) (y₁ ++ y₂) ≡ drop (w * j) y₂ = sym (drop-drop (w * j) w (y₁ ++ y₂))
          ∙ ap (drop (w * j)) (drop_at y₁ y₂ w l) in
          rw (e, d) (q.valid j (omega arith))

  -- what is valid for all is valid for each
  pub all-parts : (wide : (k : ℕ) → Width w (problem k)) (S : ℕ) (f : ℕ → ℕ) (c : ℕ) (y : List ℕ) → All problem (list_of S f) c y
      → Parts S f c y
  unfolding All list_of sum_of
  all-parts wide zero f c y empty =
      record { costs = λ j. 0; sum = refl; size = let e : w * 0 ≡ 0 = omega arith in sym e; valid = λ j h. absurd (not-suc-le-zero h) }
  all-parts wide (suc S) f c y p =
      rw (p.sum, p.append)
      (front S f p.cost₁ p.cost₂ p.levels₁ p.levels₂ ((wide (f 0)).width _ _ p.valid₁) p.valid₁
      (all-parts wide S (λ i. f (suc i)) p.cost₂ p.levels₂ p.valid₂))

  -- and what is valid for each is valid for all
  pub parts_all : (S : ℕ) (f costs : ℕ → ℕ) (y : List ℕ) → length y ≡ w * S
      → ((j : ℕ) → j < S → problem (f j) (costs j) (take w (drop (w * j) y))) → All problem (list_of S f) (sum_of S costs) y
  unfolding All list_of sum_of
  parts_all zero f costs [] e v = empty
  parts_all zero f costs (x ∷ y) e v = let z : suc (length y) ≡ w * 0 = e in absurd (omega arith)
  parts_all (suc S) f costs y e v = record {
    cost₁ = costs 0;
    levels₁ = take w y;
    cost₂ = sum_of S (λ i. costs (suc i));
    levels₂ = drop w y;
    valid₁ = let z : w * 0 ≡ 0 = omega arith in rw z at (v 0 (omega arith));
    valid₂ = parts_all S (λ i. f (suc i)) (λ i. costs (suc i)) (drop w y) (length-drop w y ∙ omega arith) (λ j h.
        let z : w * suc j ≡ w + w * j = omega arith in
        rw (drop-drop (w * j) w y) (rw z at (v (suc j) (omega arith))));
    sum = refl;
    append = sym (take-append-drop w y);
  }

-- the first closed part: it lies within, nothing is valid for it, and something is for each before it
pub record ClosedAt (problem : ℕ → Problem) (S : ℕ) (f : ℕ → ℕ) (k : ℕ) : Type 0 where
  pub inside : k < S
  pub unsolved : (d : ℕ) (y : List ℕ) → problem (f k) d y → ⊥
  pub open-cost : ℕ → ℕ
  pub open-levels : ℕ → List ℕ
  pub open-before : (j : ℕ) → j < k → problem (f j) (open-cost j) (open-levels j)

cons-list : List ℕ → (ℕ → List ℕ) → ℕ → List ℕ
cons-list y g zero = y
cons-list y g (suc j) = g j

-- by its number
pub closed_at : (problem : ℕ → Problem) (S : ℕ) (f : ℕ → ℕ) (k : ℕ) → FirstClosed problem (list_of S f) k → ClosedAt problem S f k
unfolding list_of cons cons-list
closed_at problem zero f k x = elim x [ ]
closed_at problem (suc S) f zero (here p) =
    record {
      inside = omega arith;
      unsolved = p;
      open-cost = λ j. 0;
      open-levels = λ j. [];
      open-before = λ j h. absurd (not-suc-le-zero h);
    }
closed_at problem (suc S) f (suc k) (later d y p q) =
    let r : ClosedAt problem S (λ i. f (suc i)) k = closed_at problem S (λ i. f (suc i)) k q in
    record {
      inside = omega (arith, r.inside);
      unsolved = r.unsolved;
      open-cost = cons d r.open-cost;
      open-levels = cons-list y r.open-levels;
      open-before = before r;
    }
  where
    before : (r : ClosedAt problem S (λ i. f (suc i)) k) (j : ℕ) → j < suc k
        → problem (f j) (cons d r.open-cost j) (cons-list y r.open-levels j)
    before r zero h = p
    before r (suc j) h = r.open-before j (omega arith)

-- part j of a solution made of parts
pub record PartOf (w : ℕ → Option Solution) (d : ℕ) (f : ℕ → ℕ) (a : Solution) (j : ℕ) : Type 0 where
  pub own : Solution
  pub is : w (f j) ≡ some own
  pub levels-are : take d (drop (d * j) a.levels) ≡ own.levels

-- a solution of all parts has one of each
pub all-each : (w : ℕ → Option Solution) (d : ℕ) → ((k : ℕ) (b : Solution) → w k ≡ some b → length b.levels ≡ d)
    → (n : ℕ) (f : ℕ → ℕ) (a : Solution) → all w (list_of n f) ≡ some a → (j : ℕ) → j < n → PartOf w d f a j
unfolding all list_of joined
all-each w d z zero f a e j h = absurd (not-suc-le-zero h)
all-each w d z (suc n) f a e j h = go (w (f 0)) refl (all w (list_of n (λ i. f (suc i)))) (all-each w d z n (λ i. f (suc i))) e j h
  where
    go : (x : Option Solution) → w (f 0) ≡ x → (q : Option Solution)
        → ((b : Solution) → q ≡ some b → (j : ℕ) → j < n → PartOf w d (λ i. f (suc i)) b j) → joined x q ≡ some a → (j : ℕ) → j < suc n
        → PartOf w d f a j
    go none p q r e j h = absurd (some-none a (sym e))
    go (some b) p none r e j h = absurd (some-none a (sym e))
    go (some b) p (some c) r e zero h =
        let l : b.levels ++ c.levels ≡ a.levels = ap (λ (x : Solution). x.levels) (some-injective _ _ e) in
        let o : d * 0 ≡ 0 = omega arith in
        record { own = b; is = p; levels-are = rw (o, ← l) (take_at b.levels c.levels d (z (f 0) b p)) }
    go (some b) p (some c) r e (suc j) h =
        let l : b.levels ++ c.levels ≡ a.levels = ap (λ (x : Solution). x.levels) (some-injective _ _ e) in
        let o : d * suc j ≡ d + d * j = omega arith in
        let g : PartOf w d (λ i. f (suc i)) c j = r c refl j (omega arith) in
        let q : drop (d + d * j) (b.levels ++ c.levels) ≡ drop (d * j) c.levels = sym (drop-drop (d * j) d (b.levels ++ c.levels))
        ∙ ap (drop (d * j)) (drop_at b.levels c.levels d (z (f 0) b p)) in
        record { own = g.own; is = g.is; levels-are = rw (o, ← l, q) g.levels-are }
