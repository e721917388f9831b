-- A register of the last bits, the newest first, and the quotient of the data by a generator whose digit 0 is 1.
--   dot g us            the sum of digit i times bit i of the register
--   push m b s          the register with the bit b pushed in
--   register m gs d t   the register of the quotient's last m bits before stage t
--   quotient m gs d     the data d divided by the generator 1 ∷ gs
use Rattle.std.specs.Prelude.{Bool, false, ◌&&◌, List, [], ◌∷◌, ℕ, zero, suc, take, replicate}
use Rattle.codes.specs.Sequences.{◌+₂◌, Bits}

-- the sum of a generator with bits, the newest first
unfoldable pub dot : List Bool → List Bool → Bool
dot [] us = false
dot (g ∷ gs) [] = false
dot (g ∷ gs) (u ∷ us) = (g && u) +₂ dot gs us

-- a register of the last m bits, the newest first: the next bit goes in, the oldest goes out
unfoldable pub push : ℕ → Bool → List Bool → List Bool
push m b s = take m (b ∷ s)

-- the quotient of d by the generator 1 ∷ gs, by a feedback register of the last m bits of the quotient
module _ (m : ℕ) (gs : List Bool) where
  unfoldable pub register : Bits → ℕ → List Bool
  register d zero = replicate m false
  register d (suc t) = push m (d t +₂ dot gs (register d t)) (register d t)

  -- its bit t: the data bit, and what the register feeds back
  unfoldable pub quotient : Bits → Bits
  quotient d t = d t +₂ dot gs (register d t)
