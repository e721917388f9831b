-- The plan finds the digits of the best path from prices alone, where the prices are the costs of the branches and the tie rule decides
-- ties.
--   cost-joined, cost-better   the cost of two one after the other, and of the better of two
--   costs-best                 the costs are those of the best path
--   plan-best                  the solution of the plan is the best
--   play-shut                  no digits are open from a state that has no cost
use mathlib.Core.Path.{◌≡◌, refl, sym, ◌∙◌, ap, ap₂}
use mathlib.Core.Bool.{Bool, true, false, cond, ◌&&◌, ◌||◌}
use mathlib.Core.List.{List, [], ◌∷◌, ◌++◌}
use mathlib.Core.Option.{Option, none, some}
use Prim.Native.Nat.{ℕ}
use native.Mathlib.Omega.{arith}
use lib.Dec.{ltb, eqb}
use borrow.Author.Tests.{eqb-true, ne_eqb, lt-ltb, le-ltb}
use Rattle.cells.specs.Places.{Each, no_more, and_each}
use Rattle.search.specs.Best.{Solution}
use Rattle.search.specs.Trellis.{before, lexltb, beats, better, joined, best}
use Rattle.search.specs.Plan.{solution_cost, add, lesser, turn, way, costs, digit_at, plan, play, Decides, second_lower, first_lower}
use Rattle.search.proofs.Best.{some-none}

-- the cost of two one after the other
pub cost-joined : (r s : Option Solution) → solution_cost (joined r s) ≡ add (solution_cost r) (solution_cost s)
unfolding solution_cost joined add
cost-joined none s = refl
cost-joined (some a) none = refl
cost-joined (some a) (some b) = refl

cost-better : (r s : Option Solution) → solution_cost (better r s) ≡ lesser (solution_cost r) (solution_cost s)
unfolding solution_cost better lesser beats before
cost-better none s = refl
cost-better (some a) none = refl
cost-better (some a) (some b) = ap some (go (ltb b.cost a.cost) (eqb b.cost a.cost) (lexltb b.levels a.levels) refl refl)
  where
    go : (t e l : Bool) → ltb b.cost a.cost ≡ t → eqb b.cost a.cost ≡ e
        → (cond (t || e && l) b a).cost ≡ cond t b.cost a.cost
    go true e l p q = refl
    go false true true p q = eqb-true b.cost a.cost q
    go false true false p q = refl
    go false false l p q = refl

cond-some : (t : Bool) (a b : Solution) → cond t (some a) (some b) ≡ some (cond t a b)
cond-some true a b = refl
cond-some false a b = refl

cond_of : (f : Bool → Option Solution) (u : Bool) → f u ≡ cond u (f true) (f false)
cond_of f true = refl
cond_of f false = refl

better-turn : (x y : Option Solution) (t : Bool) → ((a b : Solution) → x ≡ some a → y ≡ some b → lexltb b.levels a.levels ≡ t)
    → cond (turn (solution_cost x) (solution_cost y) t) y x ≡ better x y
unfolding solution_cost turn better beats
better-turn none none t h = refl
better-turn none (some b) t h = refl
better-turn (some a) none t h = refl
better-turn (some a) (some b) t h = rw (h a b refl refl) (cond-some (before b.cost a.cost t) b a)

-- level lists that a bit decides are in the order that it says, whatever follows them
lex-decides : {t : Bool} {x y : List ℕ} (v w : List ℕ) → Decides t x y → lexltb (y ++ w) (x ++ v) ≡ t
unfolding lexltb before
lex-decides v w (second_lower {x = x} {y = y} {xs = xs} {ys = ys} h) = ap (λ (t : Bool). t || eqb y x && lexltb (ys ++ w) (xs ++ v))
    (lt-ltb y x h)
lex-decides v w (first_lower {x = x} {y = y} {xs = xs} {ys = ys} h) =
    ap₂ (λ (t e : Bool). t || e && lexltb (ys ++ w) (xs ++ v)) (le-ltb y x (omega arith)) (ne_eqb y x (λ e. omega arith))

levels-of : Option Solution → List ℕ
levels-of none = []
levels-of (some a) = a.levels

lex-joined : (p q r s : Option Solution) (t : Bool) → ((a b : Solution) → p ≡ some a → q ≡ some b → Decides t a.levels b.levels)
    → (a b : Solution) → joined p r ≡ some a → joined q s ≡ some b → lexltb b.levels a.levels ≡ t
unfolding joined levels-of
lex-joined none q r s t h a b e f = absurd (some-none a (sym e))
lex-joined (some p) q none s t h a b e f = absurd (some-none a (sym e))
lex-joined (some p) none (some r) s t h a b e f = absurd (some-none b (sym f))
lex-joined (some p) (some q) (some r) none t h a b e f = absurd (some-none b (sym f))
lex-joined (some p) (some q) (some r) (some s) t h a b e f =
    ap₂ (λ (x y : List ℕ). lexltb x y) (sym (ap levels-of f)) (sym (ap levels-of e)) ∙ lex-decides r.levels s.levels (h p q refl refl)

-- where the lesser of two costs is none, so are both
either-shut : (o : Bool → Option ℕ) → lesser (o false) (o true) ≡ none → (u : Bool) → o u ≡ none
unfolding lesser
either-shut o = go (o false) (o true) refl refl
  where
    go : (c d : Option ℕ) → o false ≡ c → o true ≡ d → lesser c d ≡ none → (u : Bool) → o u ≡ none
    go none d p q e true = q ∙ e
    go none d p q e false = p
    go (some c) none p q e u = absurd (let z : ◌≡◌ {A = ℕ} 0 1 = cc in omega arith)
    go (some c) (some d) p q e u = absurd (let z : ◌≡◌ {A = ℕ} 0 1 = cc in omega arith)

-- THE PRICES are the costs of the branches
module _ {G S : Type 0} (branch : G → S → Bool → Option Solution) (next : G → S → Bool → S) (price : G → S → Bool → Option ℕ)
    (Ok : G → Type 0) (priced : (g : G) → Ok g → (s : S) (u : Bool) → price g s u ≡ solution_cost (branch g s u)) where
  -- a branch and what follows it
  way-best : (g : G) → Ok g → (gs : List G) → ((s : S) → costs price next gs s ≡ solution_cost (best branch next gs s)) → (s : S) (u : Bool)
      → way price next g (costs price next gs) s u ≡ solution_cost (joined (branch g s u) (best branch next gs (next g s u)))
  unfolding way
  way-best g o gs e s u = ap₂ add (priced g o s u) (e (next g s u)) ∙ sym (cost-joined _ _)

  -- the costs are those of the best path
  pub costs-best : {gs : List G} → Each Ok gs → (s : S) → costs price next gs s ≡ solution_cost (best branch next gs s)
  unfolding costs best solution_cost
  costs-best no_more s = refl
  costs-best (and_each {g = g} {gs = gs} o os) s =
      ap₂ lesser (way-best g o gs (costs-best os) s false) (way-best g o gs (costs-best os) s true) ∙ sym (cost-better _ _)

  -- no digits are open from a state that has no cost
  pub play-shut : {gs : List G} → Each Ok gs → (s : S) (us : List Bool) → costs price next gs s ≡ none → play branch next gs s us ≡ none
  unfolding play costs way add solution_cost joined
  play-shut no_more s us e = absurd (let z : ◌≡◌ {A = ℕ} 0 1 = cc in omega arith)
  play-shut (and_each o os) s [] e = refl
  play-shut (and_each {g = g} {gs = gs} o os) s (u ∷ us) e =
      go (branch g s u) (costs price next gs (next g s u))
      (ap (λ (p : Option ℕ). add p (costs price next gs (next g s u))) (sym (priced g o s u))
      ∙ either-shut (way price next g (costs price next gs) s) e u)
      (play-shut os (next g s u) us)
    where
      go : (r : Option Solution) (k : Option ℕ) → add (solution_cost r) k ≡ none → (k ≡ none → play branch next gs (next g s u) us ≡ none)
          → joined r (play branch next gs (next g s u) us) ≡ none
      go none k e f = refl
      go (some a) none e f = rw (f refl)
      go (some a) (some c) e f = absurd (let z : ◌≡◌ {A = ℕ} 0 1 = cc in omega arith)

  -- THE TIE RULE decides ties: so the solution of the plan is the best
  module _ (tie : G → S → Bool)
      (tied : (g : G) → Ok g → (s : S) (a b : Solution) → branch g s false ≡ some a → branch g s true ≡ some b → Decides (tie g s)
      a.levels b.levels) where
    pub plan-best : {gs : List G} → Each Ok gs → (s : S) → play branch next gs s (plan price tie next gs s) ≡ best branch next gs s
    unfolding play plan best digit_at
    plan-best no_more s = refl
    plan-best (and_each {g = g} {gs = gs} o os) s =
        ap (joined (branch g s u)) (plan-best os (next g s u)) ∙ cond_of X u ∙ ap (λ (v : Bool). cond v (X true) (X false)) same-digit
        ∙ better-turn (X false) (X true) (tie g s) (lex-joined (branch g s false) (branch g s true) _ _ (tie g s) (tied g o s))
      where
        u : Bool
        u = digit_at price tie next g (costs price next gs) s

        X : Bool → Option Solution
        X v = joined (branch g s v) (best branch next gs (next g s v))

        same-digit : u ≡ turn (solution_cost (X false)) (solution_cost (X true)) (tie g s)
        same-digit =
            ap₂ (λ (x y : Option ℕ). turn x y (tie g s)) (way-best g o gs (costs-best os) s false) (way-best g o gs (costs-best os) s true)
