-- Laws of the two codes, by their names.
--   memory-bounds               a code's memory is from 2 to 6
--   short-proper, long-proper   by G1 of each code data can be divided
--   proper                      so for every code
--   second-leads                G2's first digit is 1
--   two-generators              G2 is the only generator after G1
--   short-when, long-unless     which of the two a code is, by its memory
--   short-coded, long-coded     the code of given generators
use mathlib.Core.Path.{◌≡◌, refl}
use mathlib.Core.List.{[], ◌∷◌}
use Prim.Native.Nat.{◌≤◌}
use native.Mathlib.Omega.{arith}
use Rattle.codes.specs.Generators.{Generators, g2, short, long, digit}
use Rattle.codes.specs.Codes.{named, generators_of}
use Rattle.codes.specs.Encoders.{Proper}
use Rattle.codes.specs.declared.Code.{Code}
use Rattle.codes.specs.declared.Name.{Name}
use Rattle.codes.specs.declared.Name.TheVariants.{Short, Long}

-- the memory is 2 or 6
pub memory-bounds : (n : Name) → (2 ≤ (named n).memory) × ((named n).memory ≤ 6)
memory-bounds Short = (omega arith, omega arith)
memory-bounds Long = (omega arith, omega arith)

-- by G1 of code 3 data can be divided
pub short-proper : Proper short
unfolding digit
short-proper = record { some_memory = omega arith; leads = refl }

-- and by G1 of code 7
pub long-proper : Proper long
unfolding digit
long-proper = record { some_memory = omega arith; leads = refl }

-- so by that of every code, which is its name
pub proper : (c : Code) → Proper (generators_of c)
proper c = by_name c.name
  where
    by_name : (n : Name) → Proper (named n)
    by_name Short = short-proper
    by_name Long = long-proper

-- G2 of every code begins with 1 too
pub second-leads : (c : Code) → digit (generators_of c).memory (g2 (generators_of c)) 0 ≡ 1
unfolding digit
second-leads c = by_name c.name
  where
    by_name : (n : Name) → digit (named n).memory (g2 (named n)) 0 ≡ 1
    by_name Short = refl
    by_name Long = refl

-- and it is the only one after G1
pub two-generators : (c : Code) → (generators_of c).others ≡ g2 (generators_of c) ∷ []
two-generators c = by_name c.name
  where
    by_name : (n : Name) → (named n).others ≡ g2 (named n) ∷ []
    by_name Short = refl
    by_name Long = refl

-- a code of memory 2 is the short one
pub short-when : (c : Code) → (generators_of c).memory ≡ 2 → generators_of c ≡ short
short-when c = by_name c.name
  where
    by_name : (n : Name) → (named n).memory ≡ 2 → named n ≡ short
    by_name Short e = refl
    by_name Long e = absurd (let z : ⊥ = omega arith in z)

-- and any other is the long one
pub long-unless : (c : Code) → ((generators_of c).memory ≡ 2 → ⊥) → generators_of c ≡ long
long-unless c = by_name c.name
  where
    by_name : (n : Name) → ((named n).memory ≡ 2 → ⊥) → named n ≡ long
    by_name Short e = absurd (e refl)
    by_name Long e = refl

-- CODES of given generators
pub record Coded (G : Generators) : Type 0 where
  pub code : Code
  pub is : generators_of code ≡ G

-- both have one
pub short-coded : Coded short
short-coded = record { code = record { name = Short }; is = refl }

pub long-coded : Coded long
long-coded = record { code = record { name = Long }; is = refl }
