-- A CHOICE AMONG OFFERS, numbered from 0: each is a cost, or none.
--   Offer                 an offer that is taken: its number, its rank and its cost
--   outdoes, with_offer   whether one more is better than what is taken so far, and the better of the two
--   choose rank f n       THE CHOICE among the offers f 0 .. f (n − 1)
--   Ahead rank i j        i is preferred to j, or is j: lower in rank, or as high and with the lower number
--   Chosen                the cheapest offer, and the preferred one among the cheapest
--   Offered               an offer is the least price of all that could be, and none where nothing could
--   LeastOf, NoneFor      what it is to be the choice over everything that could be for any member of a family, and that nothing could
use Rattle.std.specs.Prelude.{◌≡◌, Bool, cond, ◌&&◌, ◌||◌, List, ℕ, zero, suc, ◌<◌, ◌≤◌, ltb, eqb}
use Rattle.std.proofs.Math.Option.{Option, none, some}

-- an offer that is taken
pub record Offer : Type 0 where
  pub number : ℕ
  pub rank : ℕ
  pub cost : ℕ

-- whether an offer of rank r at cost c is better than one of rank s at cost d: it costs less, or as much and is lower in rank
unfoldable pub outdoes : (r c s d : ℕ) → Bool
outdoes r c s d = ltb c d || eqb c d && ltb r s

-- the better of what is taken so far and one more, whose number is higher
abbrev pub with_offer : Option Offer → (number rank : ℕ) → Option ℕ → Option Offer
with_offer o i r none = o
with_offer none i r (some c) = some (record { number = i; rank = r; cost = c })
with_offer (some o) i r (some c) = cond (outdoes r c o.rank o.cost) (some (record { number = i; rank = r; cost = c })) (some o)

-- THE CHOICE: every offer is tried in turn
unfoldable pub choose : (rank : ℕ → ℕ) (f : ℕ → Option ℕ) → ℕ → Option Offer
choose rank f zero = none
choose rank f (suc n) = with_offer (choose rank f n) n (rank n) (f n)

-- the order of preference: by rank, then by number
pub record Ahead (rank : ℕ → ℕ) (i j : ℕ) : Type 0 where
  pub ranked : rank i ≤ rank j
  pub lower : rank i ≡ rank j → i ≤ j

-- least cost, then the order of preference
pub record Chosen (rank : ℕ → ℕ) (f : ℕ → Option ℕ) (n : ℕ) (o : Offer) : Type 0 where
  pub inside : o.number < n
  pub its_rank : o.rank ≡ rank o.number
  pub its_cost : f o.number ≡ some o.cost
  pub least : (j d : ℕ) → j < n → f j ≡ some d → o.cost ≤ d
  pub ahead : (j : ℕ) → j < n → f j ≡ some o.cost → Ahead rank o.number j

-- WHAT AN OFFER MEANS: `could` says what could be, and `price` what it costs
pub record Offered (could : List ℕ → Type 0) (price : List ℕ → ℕ) (f : Option ℕ) : Type 0 where
  pub least : (c : ℕ) → f ≡ some c → (other : List ℕ) → could other → c ≤ price other
  pub nothing : f ≡ none → (other : List ℕ) → could other → ⊥

-- a family of n members, each with what could be for it, and what that costs. Member i at this cost is the choice OVER THE UNION: nothing
-- that could be for any member costs less, and what costs the same is for a member that i is preferred to, or for i
pub record LeastOf (rank : ℕ → ℕ) (n : ℕ) (could : ℕ → List ℕ → Type 0) (price : ℕ → List ℕ → ℕ) (i cost : ℕ) : Type 0 where
  pub inside : i < n
  pub least : (j : ℕ) → j < n → (other : List ℕ) → could j other → cost ≤ price j other
  pub ahead : (j : ℕ) → j < n → (other : List ℕ) → could j other → price j other ≡ cost → Ahead rank i j

-- nothing could be for any member
pub record NoneFor (n : ℕ) (could : ℕ → List ℕ → Type 0) : Type 0 where
  pub nothing : (j : ℕ) → j < n → (other : List ℕ) → could j other → ⊥
