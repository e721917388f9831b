-- The trellis with its states as numbers is the trellis with its states as registers.
--   best-same                  states as other things have the same best
--   branch-value, next-value   a branch and the next state by the state's number
--   write-numbers              the best from state 0 is the write of the strip
use mathlib.Core.Path.{◌≡◌, refl, sym, ◌∙◌, ap, ap₂}
use mathlib.Core.Bool.{Bool, true, false}
use mathlib.Core.List.{List, [], ◌∷◌}
use mathlib.Core.Option.{Option}
use Prim.Native.Nat.{ℕ, ◌+◌, ◌*◌, ◌%◌, ◌^◌}
use native.Mathlib.Omega.{arith}
use lib.ListN.{replicate}
use Rattle.codes.specs.Sequences.{◌+₂◌, Bits, odd}
use Rattle.codes.specs.Registers.{dot, push}
use Rattle.codes.specs.Encoders.{Encoder}
use Rattle.codes.specs.Taps.{parity_of}
use Rattle.codes.specs.Numbers.{one-if, value}
use Rattle.codes.proofs.Numbers.{odd-one-if, parity-dot, value-take, value-zeros}
use Rattle.search.specs.Best.{Solution}
use Rattle.search.specs.Trellis.{better, joined, best}
use Rattle.search.specs.Strip.{Cell}
use Rattle.search.specs.Search.{sums, wanted, Stage, Choice, branch, next, stages, write}
use Rattle.search.specs.Numbered.{sums_n, wanted_n, branch_n, next_n}

-- states as other things: what commutes with the branches and the next states keeps the best
module _ {G S R : Type 0} (branch₁ : G → S → Bool → Option Solution) (next₁ : G → S → Bool → S)
    (branch₂ : G → R → Bool → Option Solution) (next₂ : G → R → Bool → R) (φ : S → R)
    (same_branch : (g : G) (s : S) (u : Bool) → branch₂ g (φ s) u ≡ branch₁ g s u)
    (same_next : (g : G) (s : S) (u : Bool) → next₂ g (φ s) u ≡ φ (next₁ g s u)) where
  -- the best
  best-same : (gs : List G) (s : S) → best branch₂ next₂ gs (φ s) ≡ best branch₁ next₁ gs s
  unfolding best
  best-same [] s = refl
  best-same (g ∷ gs) s = ap₂ better (arm (best-same gs) false) (arm (best-same gs) true)
    where
      arm : ((s : S) → best branch₂ next₂ gs (φ s) ≡ best branch₁ next₁ gs s) → (u : Bool)
          → joined (branch₂ g (φ s) u) (best branch₂ next₂ gs (next₂ g (φ s) u))
          ≡ joined (branch₁ g s u) (best branch₁ next₁ gs (next₁ g s u))
      arm f u = ap₂ joined (same_branch g s u) (ap (best branch₂ next₂ gs) (same_next g s u) ∙ f (next₁ g s u))

-- THE STATES AS NUMBERS. A generator's bit
parity-bit : (G s : List Bool) → odd (parity_of (value G) (value s)) ≡ dot G s
parity-bit G s = ap odd (parity-dot G s) ∙ odd-one-if (dot G s)

sums-value : (h : List Bool) (Gs : List (List Bool)) (xs : List Bool) → sums_n (value h) Gs xs ≡ sums h Gs xs
unfolding sums_n sums
sums-value h [] xs = refl
sums-value h (G ∷ Gs) [] = refl
sums-value h (G ∷ Gs) (x ∷ xs) = ap₂ (λ (b : Bool) (l : List Bool). (b +₂ x) ∷ l) (parity-bit G h) (sums-value h Gs xs)

wanted-value : (E : Encoder) (h xs : List Bool) → wanted_n E (value h) xs ≡ wanted E h xs
unfolding wanted_n wanted
wanted-value E h xs = ap₂ (λ (b : Bool) (l : List Bool). b ∷ l) (parity-bit (true ∷ E.first) h) (sums-value h E.others xs)

window-value : (s : List Bool) (u : Bool) → 2 * value s + one-if u ≡ value (u ∷ s)
unfolding value
window-value s u = omega arith

-- a branch by the state's number
branch-value : (E : Encoder) (choose : Choice) (g : Stage) (s : List Bool) (u : Bool)
    → branch_n E choose g (value s) u ≡ branch E choose g s u
unfolding branch_n branch
branch-value E choose g s u =
    ap (choose g.cells) (ap (λ (w : ℕ). wanted_n E w g.adds) (window-value s u) ∙ wanted-value E (u ∷ s) g.adds)

-- the next state's number
next-value : (E : Encoder) (g : Stage) (s : List Bool) (u : Bool) → next_n E g (value s) u ≡ value (next E g s u)
unfolding next_n next push
next-value E g s u = ap (λ (w : ℕ). w % 2 ^ E.memory) (window-value s u) ∙ sym (value-take E.memory (u ∷ s))

-- THE WRITE by numbered states, from state 0
pub write-numbers : (E : Encoder) (choose : Choice) (d : ℕ → Bits) (k n : ℕ) (old : List Cell)
    → best (branch_n E choose) (next_n E) (stages E d k 0 n old) 0 ≡ write E d choose k n old
unfolding write
write-numbers E choose d k n old =
    ap (best (branch_n E choose) (next_n E) (stages E d k 0 n old)) (sym (value-zeros E.memory))
    ∙ best-same (branch E choose) (next E) (branch_n E choose) (next_n E) value (branch-value E choose) (next-value E) (stages E d k 0 n old)
    (replicate E.memory false)
