-- WHAT DOES NOT DEPEND ON THE WEIGHTS: which pages could be, and so the strip at which a page is spent. For any layout, code and marks.
--   reweighed           a job with other weights
--   could-any-weights   which pages could be
--   spent-any-strip     the strip at which a page is spent
--   spent-once          there is one such strip
use mathlib.Core.Path.{◌≡◌, refl}
use mathlib.Core.Bool.{Bool, true, false}
use mathlib.Core.List.{List}
use Prim.Native.Nat.{ℕ, ◌<◌}
use native.Mathlib.Omega.{arith}
use lib.Dec.{ltb}
use borrow.Author.Tests.{ltb-true, ltb-false}
use Rattle.demand.specs.Jobs.{Job, strip_job}
use Rattle.demand.specs.Demand.{Could, SpentAt}

-- a job with other weights
abbrev pub reweighed : List ℕ → Job → Job
reweighed W J = record {
  layout = J.layout;
  code = J.code;
  weights = W;
  marks = J.marks;
  bytes = J.bytes;
  strips = J.strips;
  page = J.page;
  content = J.content;
}

-- the pages that could be
pub could-any-weights : (U W : List ℕ) (J : Job) {other : List ℕ} → Could (reweighed U J) other → Could (reweighed W J) other
could-any-weights U W J c = record { size = c.size; reads = c.reads; no_lower = c.no_lower; marked_stay = c.marked_stay }

-- the strip at which a page is spent
pub spent-any-strip : (U W : List ℕ) (J : Job) {k : ℕ} → SpentAt (reweighed U J) k → SpentAt (reweighed W J) k
unfolding strip_job
spent-any-strip U W J {k} p = record {
  inside = p.inside;
  no_page = λ other c. p.no_page other (could-any-weights W U J c);
  no_pattern = λ other c. p.no_pattern other (could-any-weights W U (strip_job J k) c);
  lowest = λ j h. let f = p.lowest j h in record { pattern = f.pattern; could = could-any-weights U W (strip_job J j) f.could };
}

-- there is one such strip
pub spent-once : {J : Job} {j k : ℕ} → SpentAt J j → SpentAt J k → j ≡ k
spent-once {J} {j} {k} p q = go (ltb j k) refl (ltb k j) refl
  where
    -- a lower strip takes its part
    not_lower : {i l : ℕ} → SpentAt J i → SpentAt J l → i < l → ⊥
    not_lower {i} a b h = let f = b.lowest i h in a.no_pattern f.pattern f.could

    go : (a : Bool) → ltb j k ≡ a → (b : Bool) → ltb k j ≡ b → j ≡ k
    go true e b f = absurd (not_lower p q (ltb-true j k e))
    go false e true f = absurd (not_lower q p (ltb-true k j f))
    go false e false f = omega (arith, ltb-false j k e, ltb-false k j f)
