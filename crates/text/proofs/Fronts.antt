-- A text at the end of its bytes, with zeros in front of it.
use mathlib.Core.Path.{◌≡◌, ◌∙◌, ap, sym}
use Prim.Native.Nat.{◌≤◌}
use native.Mathlib.Omega.{arith}
use Rattle.std.specs.Prelude.{List, ℕ, ◌++◌}
use lib.ListN.{take, drop, replicate}
use Rattle.std.proofs.lemmas.List.{take-append-drop, take-append-le, take-replicate, length-replicate}

-- what is put in front of the text leaves zeros in front
pub zeros-kept : (n k : ℕ) (xs ys : List ℕ) → n ≤ k → xs ≡ replicate k 0 ++ drop k xs → take n ys ≡ take n xs
    → ys ≡ replicate n 0 ++ drop n ys
zeros-kept n k xs ys le front same =
    let zeros : take n ys ≡ replicate n 0
    = same ∙ ap (take n) front
    ∙ take-append-le n (replicate k 0) (drop k xs) (omega (arith, length-replicate {A = ℕ} k 0))
    ∙ take-replicate n k 0 le in
    sym (take-append-drop n ys) ∙ ap (λ zs. zs ++ drop n ys) zeros
