-- Sequences of bits, a bit for each stage, and what a generator makes of one.
--   a +₂ b, x ⊕ y   the sum of two bits, and of two sequences
--   Bits, zeros     a bit for each stage; all zeros
--   scale g x       all or nothing, by a bit
--   shift x         a stage later, with 0 first
--   conv gs x       the convolution of the generator's digits gs with x
--   Agree n x y     x and y are the same below stage n
--   odd n           whether a number is odd: a number's bit as a Bool
use Rattle.std.specs.Prelude.{◌≡◌, Bool, true, false, ◌&&◌, not, List, [], ◌∷◌, ℕ, zero, suc, ◌<◌}

infixl 50 ◌+₂◌
infixl 45 ◌⊕◌
-- the sum of two bits
abbrev pub ◌+₂◌ : Bool → Bool → Bool
false +₂ false = false
false +₂ true = true
true +₂ false = true
true +₂ true = false

-- a bit for each stage
abbrev pub Bits : Type 0
Bits = ℕ → Bool

-- all zeros
unfoldable pub zeros : Bits
zeros t = false

-- the sum stage by stage
unfoldable pub ◌⊕◌ : Bits → Bits → Bits
(x ⊕ y) t = x t +₂ y t

-- all or nothing, by a bit
unfoldable pub scale : Bool → Bits → Bits
scale g x t = g && x t

-- a stage later, with 0 first
unfoldable pub shift : Bits → Bits
shift x zero = false
shift x (suc t) = x t

-- the generator's digit i belongs to the bit i stages ago
unfoldable pub conv : List Bool → Bits → Bits
conv [] x = zeros
conv (g ∷ gs) x = scale g x ⊕ shift (conv gs x)

-- two sequences agree below stage n
pub record Agree (n : ℕ) (x y : Bits) : Type 0 where
  pub at : (t : ℕ) → t < n → x t ≡ y t

-- whether a number is odd
unfoldable pub odd : ℕ → Bool
odd zero = false
odd (suc n) = not (odd n)
