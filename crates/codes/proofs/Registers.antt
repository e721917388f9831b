-- Laws of registers of the last bits: a convolution is what a register sums, and the quotient is what a fed back register gives.
--   hist m t u                      the bits before stage t, the newest first
--   hist-agree, hist-zero           they depend on what stands below t; the register of m bits at stage 0
--   conv-dot                        a convolution at a stage is the sum of the generator with the bits so far
--   dot-state, push-state           a register of m bits is all that generators of memory m need
--   conv-quotient, quotient-below   the generator times the quotient is the data, and nothing else is
use mathlib.Core.Path.{◌≡◌, refl, sym, ◌∙◌, ap, ap₂, fun_ext}
use mathlib.Core.Bool.{Bool, true, false, ◌&&◌}
use mathlib.Core.List.{List, [], ◌∷◌}
use Prim.Native.Nat.{ℕ, zero, suc, ◌≤◌}
use native.Mathlib.Omega.{arith}
use native.Mathlib.Nat.{not-suc-le-zero}
use lib.ListN.{length, take, replicate, length-replicate}
use lib.Seq.{take-take, take_all}
use Rattle.codes.specs.Sequences.{◌+₂◌, Bits, zeros, ◌⊕◌, scale, shift, conv, Agree}
use Rattle.codes.specs.Registers.{dot, push, register, quotient}
use Rattle.codes.proofs.Sequences.{+₂-again, agree-down, conv-inj}

-- the bits before stage t, the newest first, with m zeros before stage 0
unfoldable pub hist : ℕ → ℕ → Bits → List Bool
hist m zero u = replicate m false
hist m (suc t) u = u t ∷ hist m t u

-- the bits before t depend on what stands below t
pub hist-agree : (m t : ℕ) {u v : Bits} → Agree t u v → hist m t u ≡ hist m t v
unfolding hist
hist-agree m zero e = refl
hist-agree m (suc t) {u} {v} e = ap₂ (λ (b : Bool) (l : List Bool). b ∷ l) (e.at t (omega arith)) (hist-agree m t (agree-down e))

-- the register of m bits at stage 0
pub hist-zero : (m : ℕ) (u : Bits) → take m (hist m 0 u) ≡ replicate m false
unfolding hist
hist-zero m u = take_all m (replicate m false) (omega (arith, length-replicate m false))

-- conv at a stage is the sum of the generator with the bits so far
dot-null : (m : ℕ) (g : List Bool) → dot g (replicate m false) ≡ false
unfolding dot
dot-null m [] = refl
dot-null zero (g ∷ gs) = refl
dot-null (suc m) (true ∷ gs) = rw (dot-null m gs)
dot-null (suc m) (false ∷ gs) = rw (dot-null m gs)

-- the law itself
pub conv-dot : (m : ℕ) (g : List Bool) (u : Bits) (t : ℕ) → conv g u t ≡ dot g (hist m (suc t) u)
unfolding conv zeros scale shift ◌⊕◌ dot hist
conv-dot m [] u t = refl
conv-dot m (g ∷ gs) u zero = ap (λ (b : Bool). (g && u 0) +₂ b) (sym (dot-null m gs))
conv-dot m (g ∷ gs) u (suc t) = ap (λ (b : Bool). (g && u (suc t)) +₂ b) (conv-dot m gs u t)

-- a register of m bits keeps what generators of m + 1 digits reach
dot-take : (m : ℕ) (gs h : List Bool) → length gs ≤ m → dot gs (take m h) ≡ dot gs h
unfolding dot
dot-take m [] h l = refl
dot-take zero (g ∷ gs) h l = absurd (not-suc-le-zero l)
dot-take (suc m) (g ∷ gs) [] l = refl
dot-take (suc m) (g ∷ gs) (x ∷ h) l = ap (λ (b : Bool). (g && x) +₂ b) (dot-take m gs h (omega arith))

-- the same with the newest bit in front
pub dot-state : (m : ℕ) (G : List Bool) (b : Bool) (h : List Bool) → length G ≤ suc m → dot G (b ∷ take m h) ≡ dot G (b ∷ h)
unfolding dot
dot-state m [] b h l = refl
dot-state m (g ∷ gs) b h l = ap (λ (x : Bool). (g && b) +₂ x) (dot-take m gs h (omega arith))

-- pushing on a register of the last bits gives the register of the last bits
pub push-state : (m : ℕ) (b : Bool) (h : List Bool) → push m b (take m h) ≡ take m (b ∷ h)
unfolding push
push-state zero b h = refl
push-state (suc m) b h = ap (λ (l : List Bool). b ∷ l) (take-take m (suc m) h (omega arith))

-- THE QUOTIENT: times the generator it is the data, and nothing else is
module _ (m : ℕ) (gs : List Bool) where
  -- the register holds the quotient's last bits
  register-hist : (d : Bits) (t : ℕ) → register m gs d t ≡ take m (hist m t (quotient m gs d))
  unfolding register hist quotient
  register-hist d zero = sym (hist-zero m (quotient m gs d))
  register-hist d (suc t) = ap (push m (quotient m gs d t)) (register-hist d t) ∙ push-state m _ (hist m t (quotient m gs d))

  module _ (l : length gs ≤ m) where
    sum-quotient : (d : Bits) (t : ℕ) → dot (true ∷ gs) (hist m (suc t) (quotient m gs d)) ≡ d t
    unfolding dot hist quotient
    sum-quotient d t =
        ap (λ (x : Bool). d t +₂ dot gs (register m gs d t) +₂ x)
        (sym (dot-take m gs (hist m t (quotient m gs d)) l) ∙ ap (dot gs) (sym (register-hist d t)))
        ∙ +₂-again (d t) (dot gs (register m gs d t))

    -- the generator times the quotient is the data
    pub conv-quotient : (d : Bits) → conv (true ∷ gs) (quotient m gs d) ≡ d
    conv-quotient d = fun_ext λ t. conv-dot m (true ∷ gs) (quotient m gs d) t ∙ sum-quotient d t

    -- the quotient of a product is the factor, below stage n
    pub quotient-below : (n : ℕ) (x d : Bits) → Agree n (conv (true ∷ gs) x) d → Agree n x (quotient m gs d)
    quotient-below n x d e = conv-inj n gs x (quotient m gs d) (rw (conv-quotient d) e)
