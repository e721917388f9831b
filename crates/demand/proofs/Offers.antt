-- THE LAWS OF A CHOICE AMONG OFFERS.
--   one-cost, not_none    an offer has one cost, and is not none
--   chosen, unchosen      what is chosen is the cheapest offer and the preferred one among these; where nothing is, there is no offer
--   choose-more           one more is tried
--   same-choice           equal offers, equal choice
--   union-least           so it is the choice over everything that could be for any member of a family
--   union-nothing         and where nothing is chosen, nothing could be for any
--   union-spent           nothing could be for any exactly when no member has an offer
use mathlib.Core.Path.{◌≡◌, refl, sym, ◌∙◌, ap}
use mathlib.Core.Bool.{Bool, true, false, cond, ◌&&◌, ◌||◌, true≢false, false≢true}
use mathlib.Core.List.{List}
use mathlib.Core.Logic.{◌↔◌}
use mathlib.Core.Option.{Option, none, some, some-injective}
use Prim.Native.Nat.{ℕ, zero, suc, ◌+◌, ◌<◌, ◌≤◌}
use native.Mathlib.Omega.{arith}
use lib.Dec.{ltb, eqb}
use borrow.Author.Count.{below_more}
use borrow.Author.Tests.{ltb-true, ltb-false, eqb-true, eqb-false}
use Rattle.search.proofs.Best.{some-none}
use Rattle.demand.specs.Offers.{Offer, outdoes, with_offer, choose, Ahead, Chosen, Offered, LeastOf, NoneFor}

-- an offer has one cost
pub one-cost : {f : Option ℕ} {c d : ℕ} → f ≡ some c → f ≡ some d → c ≡ d
one-cost {c = c} {d = d} p q = some-injective c d (sym p ∙ q)

-- and is not none
pub not_none : {A : Type 0} {x : Option A} {a : A} → x ≡ some a → x ≡ none → ⊥
not_none {a = a} p q = some-none a (sym p ∙ q)

-- 0 .. n are 0 .. n − 1 and n
and_last : (n : ℕ) (P : ℕ → Type 0) → ((j : ℕ) → j < n → P j) → P n → (j : ℕ) → j < suc n → P j
and_last n P before here j h = below_more P n before here j (omega arith)

-- a number is in order with itself
ahead-self : (rank : ℕ → ℕ) (i : ℕ) → Ahead rank i i
ahead-self rank i = record { ranked = omega arith; lower = λ e. omega arith }

-- THE TEST. One that is better costs no more, and where it costs as much its rank is lower
outdoes-true : (r c s d : ℕ) → outdoes r c s d ≡ true → (c ≤ d) × (d ≤ c → r < s)
unfolding outdoes
outdoes-true r c s d = go (ltb c d) refl (eqb c d) refl (ltb r s) refl
  where
    go : (x : Bool) → ltb c d ≡ x → (y : Bool) → eqb c d ≡ y → (z : Bool) → ltb r s ≡ z → (x || y && z) ≡ true
        → (c ≤ d) × (d ≤ c → r < s)
    go true l y e z f t = let k = ltb-true c d l in (omega arith, λ m. absurd (let w : ⊥ = omega arith in w))
    go false l true e true f t = (omega (arith, eqb-true c d e), λ m. ltb-true _ _ f)
    go false l true e false f t = absurd (false≢true t)
    go false l false e z f t = absurd (false≢true t)

-- one that is not costs no less, and where it costs as much its rank is no lower
outdoes-false : (r c s d : ℕ) → outdoes r c s d ≡ false → (d ≤ c) × (c ≡ d → s ≤ r)
unfolding outdoes
outdoes-false r c s d = go (ltb c d) refl (eqb c d) refl (ltb r s) refl
  where
    go : (x : Bool) → ltb c d ≡ x → (y : Bool) → eqb c d ≡ y → (z : Bool) → ltb r s ≡ z → (x || y && z) ≡ false
        → (d ≤ c) × (c ≡ d → s ≤ r)
    go true l y e z f t = absurd (true≢false t)
    go false l true e true f t = absurd (true≢false t)
    go false l true e false f t = (ltb-false c d l, λ m. ltb-false _ _ f)
    go false l false e z f t = (ltb-false c d l, λ m. absurd (eqb-false c d e m))

module _ (rank : ℕ → ℕ) (f : ℕ → Option ℕ) where
  -- what the choice says
  abbrev Result : ℕ → Option Offer → Type 0
  Result n none = (j : ℕ) → j < n → f j ≡ none
  Result n (some o) = Chosen rank f n o

  -- the offer of number n, at this cost
  abbrev offer_at : ℕ → ℕ → Offer
  offer_at n c = record { number = n; rank = rank n; cost = c }

  -- the first offer
  first : (n c : ℕ) → ((j : ℕ) → j < n → f j ≡ none) → f n ≡ some c → Chosen rank f (suc n) (offer_at n c)
  first n c empty e = record {
    inside = omega arith;
    its_rank = refl;
    its_cost = e;
    least = λ j d h.
        and_last n (λ i. f i ≡ some d → c ≤ d) (λ i l g. absurd (not_none g (empty i l))) (λ g. omega (arith, one-cost e g)) j h;
    ahead = λ j h. and_last n (λ i. f i ≡ some c → Ahead rank n i) (λ i l g. absurd (not_none g (empty i l))) (λ g. ahead-self rank n) j h;
  }

  -- one that is better
  better-taken : (n c : ℕ) (o : Offer) → Chosen rank f n o → f n ≡ some c → outdoes (rank n) c o.rank o.cost ≡ true
      → Chosen rank f (suc n) (offer_at n c)
  better-taken n c o b e t = record {
    inside = omega arith;
    its_rank = refl;
    its_cost = e;
    least = λ j d h.
        and_last n (λ i. f i ≡ some d → c ≤ d) (λ i l g. omega (arith, b.least i d l g, w.0)) (λ g. omega (arith, one-cost e g)) j h;
    ahead = λ j h. and_last n (λ i. f i ≡ some c → Ahead rank n i) before (λ g. ahead-self rank n) j h;
  }
    where
      w : (c ≤ o.cost) × (o.cost ≤ c → rank n < o.rank)
      w = outdoes-true (rank n) c o.rank o.cost t

      before : (i : ℕ) → i < n → f i ≡ some c → Ahead rank n i
      before i l g =
          let m : o.cost ≤ c = b.least i c l g in
          let q : o.cost ≡ c = omega (arith, w.0) in
          let a = b.ahead i l (g ∙ ap some (sym q)) in
          let z : rank n < rank i = omega (arith, w.1 m, a.ranked, b.its_rank) in
          record { ranked = omega arith; lower = λ d. absurd (let y : ⊥ = omega arith in y) }

  -- one that is not
  other-left : (n c : ℕ) (o : Offer) → Chosen rank f n o → f n ≡ some c → outdoes (rank n) c o.rank o.cost ≡ false
      → Chosen rank f (suc n) o
  other-left n c o b e t = record {
    inside = omega (arith, b.inside);
    its_rank = b.its_rank;
    its_cost = b.its_cost;
    least = λ j d h.
        and_last n (λ i. f i ≡ some d → o.cost ≤ d) (λ i l g. b.least i d l g) (λ g. omega (arith, one-cost e g, w.0)) j h;
    ahead = λ j h.
        and_last n (λ i. f i ≡ some o.cost → Ahead rank o.number i) (λ i l g. b.ahead i l g)
        (λ g. record { ranked = omega (arith, w.1 (one-cost e g), b.its_rank); lower = λ d. omega (arith, b.inside) }) j h;
  }
    where
      w : (o.cost ≤ c) × (c ≡ o.cost → o.rank ≤ rank n)
      w = outdoes-false (rank n) c o.rank o.cost t

  -- one more that is no offer
  no-offer : (n : ℕ) (r : Option Offer) → Result n r → f n ≡ none → Result (suc n) r
  no-offer n none b e = λ j h. and_last n (λ i. f i ≡ none) b e j h
  no-offer n (some o) b e = record {
    inside = omega (arith, b.inside);
    its_rank = b.its_rank;
    its_cost = b.its_cost;
    least = λ j d h. and_last n (λ i. f i ≡ some d → o.cost ≤ d) (λ i l g. b.least i d l g) (λ g. absurd (not_none g e)) j h;
    ahead = λ j h.
        and_last n (λ i. f i ≡ some o.cost → Ahead rank o.number i) (λ i l g. b.ahead i l g) (λ g. absurd (not_none g e)) j h;
  }

  -- one more
  one_more : (n : ℕ) (r : Option Offer) → Result n r → (c : Option ℕ) → f n ≡ c → Result (suc n) (with_offer r n (rank n) c)
  one_more n r b none e = no-offer n r b e
  one_more n none b (some c) e = first n c b e
  one_more n (some o) b (some c) e = go (outdoes (rank n) c o.rank o.cost) refl
    where
      go : (t : Bool) → outdoes (rank n) c o.rank o.cost ≡ t → Result (suc n) (cond t (some (offer_at n c)) (some o))
      go true t = better-taken n c o b e t
      go false t = other-left n c o b e t

  result : (n : ℕ) → Result n (choose rank f n)
  unfolding choose
  result zero = λ j h. absurd (let z : ⊥ = omega arith in z)
  result (suc n) = one_more n (choose rank f n) (result n) (f n) refl

  -- WHAT IS CHOSEN is the cheapest offer, and the preferred one among these
  pub chosen : (n : ℕ) {o : Offer} → choose rank f n ≡ some o → Chosen rank f n o
  chosen n e = rw e at (result n)

  -- where nothing is chosen, there is no offer
  pub unchosen : (n : ℕ) → choose rank f n ≡ none → (j : ℕ) → j < n → f j ≡ none
  unchosen n e = rw e at (result n)

-- ONE MORE IS TRIED, as a loop over the offers has it
pub choose-more : (rank : ℕ → ℕ) (f : ℕ → Option ℕ) (k : ℕ) {so_far after : Option Offer} → so_far ≡ choose rank f k
    → after ≡ with_offer so_far k (rank k) (f k) → after ≡ choose rank f (k + 1)
unfolding choose
choose-more rank f k s a = let z : k + 1 ≡ suc k = omega arith in rw (z, a, s) refl

-- equal offers, equal choice
pub same-choice : (rank : ℕ → ℕ) (f g : ℕ → Option ℕ) (n : ℕ) → ((j : ℕ) → j < n → f j ≡ g j) → choose rank f n ≡ choose rank g n
unfolding choose
same-choice rank f g zero e = refl
same-choice rank f g (suc n) e = rw (same-choice rank f g n (λ j h. e j (omega arith)), e n (omega arith)) refl

-- A FAMILY OF PROBLEMS, each with its offer
module _ (rank : ℕ → ℕ) (n : ℕ) (could : ℕ → List ℕ → Type 0) (price : ℕ → List ℕ → ℕ) (f : ℕ → Option ℕ)
    (right : (j : ℕ) → j < n → Offered (could j) (price j) (f j)) where
  -- THE LEAST OF SEVERAL CHEAPEST IS THE CHEAPEST OF THEIR UNION: the choice among the offers is that over everything that could be for any
  -- member
  pub union-least : {o : Offer} → choose rank f n ≡ some o → LeastOf rank n could price o.number o.cost
  union-least {o} e = record {
    inside = b.inside;
    least = λ j h other x. (go j h other x (f j) refl).0;
    ahead = λ j h other x q. (go j h other x (f j) refl).1 q;
  }
    where
      b : Chosen rank f n o
      b = chosen rank f n e

      go : (j : ℕ) → j < n → (other : List ℕ) → could j other → (c : Option ℕ) → f j ≡ c
          → (o.cost ≤ price j other) × (price j other ≡ o.cost → Ahead rank o.number j)
      go j h other x none q = absurd ((right j h).nothing q other x)
      go j h other x (some c) q =
          let l : c ≤ price j other = (right j h).least c q other x in
          let m : o.cost ≤ c = b.least j c h q in
          (omega arith, λ r. b.ahead j h (q ∙ ap some (let z : c ≡ o.cost = omega arith in z)))

  -- where nothing is chosen, nothing could be for any
  pub union-nothing : choose rank f n ≡ none → NoneFor n could
  union-nothing e = record { nothing = λ j h. (right j h).nothing (unchosen rank f n e j h) }

  -- NOTHING COULD BE FOR ANY EXACTLY WHEN no member has an offer, where an offer is of something that could be
  pub union-spent : ((j c : ℕ) → j < n → f j ≡ some c → (other : List ℕ) × could j other)
      → NoneFor n could ↔ ((j : ℕ) → j < n → f j ≡ none)
  union-spent real = (λ z j h. go z j h (f j) refl, λ e. record { nothing = λ j h. (right j h).nothing (e j h) })
    where
      go : NoneFor n could → (j : ℕ) → j < n → (c : Option ℕ) → f j ≡ c → f j ≡ none
      go z j h none q = q
      go z j h (some c) q = let r = real j c h q in absurd (z.nothing j h r.0 r.1)
