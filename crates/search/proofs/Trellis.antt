-- `best` solves the trellis; `all` solves independent parts, and where it is closed `first-none` is the first part that has no solution.
--   best-solves   the best way through the stages solves the problem of all stages
--   all-solves    the best of each part, one after the other, solves all parts
--   none_first    where all parts have none, the first part with none has no valid levels
use mathlib.Core.Path.{◌≡◌, refl}
use mathlib.Core.Bool.{Bool, true, false}
use mathlib.Core.List.{List, ◌∷◌}
use mathlib.Core.Option.{Option, none, some}
use Prim.Native.Nat.{ℕ, suc}
use Rattle.cells.specs.Places.{Each, no_more, and_each}
use Rattle.search.specs.Best.{Problem, Solution, Solves, nothing, just, Width, All, FirstClosed, here, later}
use Rattle.search.specs.Trellis.{joined, free, best, Valid, all, first-none}
use Rattle.search.proofs.Best.{solves-empty, solves-either, solves-product, some-none}

-- THE TRELLIS: best solves it
module _ {G S : Type 0} (branch : G → S → Bool → Option Solution) (next : G → S → Bool → S) (admit : G → S → Bool → Problem) (width : G → ℕ)
    (Ok : G → Type 0) (law : (g : G) → Ok g → (s : S) (u : Bool) → Solves (admit g s u) (branch g s u))
    (wide : (g : G) (s : S) (u : Bool) → Width (width g) (admit g s u)) where
  -- the law itself
  pub best-solves : {gs : List G} → Each Ok gs → (s : S) → Solves (Valid admit next gs s) (best branch next gs s)
  unfolding best Valid
  best-solves no_more s = solves-empty
  best-solves (and_each {g = g} o os) s =
      solves-either _ (solves-product (width g) (wide g s false) (law g o s false) (best-solves os (next g s false)))
      (solves-product (width g) (wide g s true) (law g o s true) (best-solves os (next g s true)))

-- THE PARTS: all solves them, and where there is no solution first-none is the first part that has none
module _ {I : Type 0} (solution : I → Option Solution) (problem : I → Problem) (width : I → ℕ)
    (Ok : I → Type 0) (law : (i : I) → Ok i → Solves (problem i) (solution i)) (wide : (i : I) → Width (width i) (problem i)) where
  -- the parts one after the other
  pub all-solves : {is : List I} → Each Ok is → Solves (All problem is) (all solution is)
  unfolding All all
  all-solves no_more = solves-empty
  all-solves (and_each {g = i} o os) = solves-product (width i) (wide i) (law i o) (all-solves os)

  -- no solution: first-none is the first part for which nothing is valid
  pub none_first : {is : List I} → Each Ok is → all solution is ≡ none → FirstClosed problem is (first-none solution is)
  unfolding all first-none joined
  none_first no_more e = absurd (some-none free e)
  none_first (and_each {g = i} {gs = is} o os) e = go (solution i) (law i o) (all solution is) (none_first os) e
    where
      go : (r : Option Solution) → Solves (problem i) r → (q : Option Solution)
          → (q ≡ none → FirstClosed problem is (first-none solution is)) → joined r q ≡ none
          → FirstClosed problem (i ∷ is) (elim r [ none ↦ 0 | some a ↦ suc (first-none solution is) ])
      go none (nothing p) q f e = here p
      go (some a) (just p) none f e = later a.cost a.levels p.valid (f refl)
      go (some a) (just p) (some b) f e = absurd (some-none _ e)
