-- One bit a cell: keeping a cell or raising it by one is strictly the cheapest way to show a bit, as every step costs something; so the
-- stage's choice finds the stage's strictly cheapest levels, or there are none.
--   parity-chosen     so keeping or raising by one is the choice that tries every level
--   held, keep-held   the level of a cell that shows a bit, and the choice holds it
--   held-lower        of the two bits, the one that the cell shows holds the lower level
--   raised-held       the level that the program raises to is the one that the choice holds
use mathlib.Core.Path.{◌≡◌, refl, sym, ◌∙◌, ap, ap₂, fun_ext}
use mathlib.Core.Bool.{Bool, true, false, cond, not, beq, true≢false, false≢true}
use mathlib.Core.List.{List, [], ◌∷◌, ◌++◌, map}
use mathlib.Core.Option.{none, some, some-injective}
use mathlib.Core.Logic.{◌⊎◌, inl, inr}
use Prim.Native.Nat.{ℕ, suc, ◌<◌, ◌≤◌, ◌+◌, ◌%◌}
use native.Mathlib.Omega.{arith}
use lib.Dec.{ltb}
use lib.ListN.{length, length-map}
use borrow.Author.Tests.{ltb-true, ltb-false}
use Rattle.cells.specs.Climbs.{climb}
use Rattle.cells.proofs.Climbs.{climb-stay, climb-step, climb-rises}
use Rattle.codes.specs.Sequences.{◌+₂◌, odd}
use Rattle.codes.specs.Numbers.{one-if}
use Rattle.codes.proofs.Numbers.{odd-one-if}
use Rattle.codes.proofs.Sequences.{odd-add}
use Rattle.search.specs.Best.{Solution, Settles, unsolved, sole, Product, Empty, empty}
use Rattle.search.specs.Strip.{Steps, Dear, Cell, Raised, still, rise, Group}
use Rattle.search.specs.Choices.{choice_of}
use Rattle.search.specs.Plan.{Decides, second_lower, first_lower}
use Rattle.search.specs.Parity.{parity, One, keep-or-raise, parity-choice}
use Rattle.search.proofs.Best.{settles-solves, settles-product, settles-empty, settles-iff, solves-unique, some-none}
use Rattle.search.proofs.Choices.{choice-solves}
use Rattle.search.proofs.Strip.{raised-length}
use Rattle.search.proofs.Windows.{mod-odd}

-- bits
beq-true : (a b : Bool) → beq a b ≡ true → a ≡ b
beq-true true true e = refl
beq-true true false e = sym e
beq-true false true e = e
beq-true false false e = refl

-- a bit that is not b is b's opposite
beq-false : (a b : Bool) → beq a b ≡ false → not a ≡ b
beq-false true true e = sym e
beq-false true false e = refl
beq-false false true e = refl
beq-false false false e = e

not-self : (a b : Bool) → not a ≡ b → a ≡ b → ⊥
not-self true b e f = true≢false (f ∙ sym e)
not-self false b e f = false≢true (f ∙ sym e)

-- ONE BIT A CELL. A cell's choice is its best, strictly
module _ (S : Steps) (D : Dear S) (x : Cell) (b : Bool) where
  abbrev from : ℕ
  from = x.level

  abbrev costs-to : ℕ → ℕ
  costs-to = climb S.weight from

  -- a level above `low` costs more than `low`, and no other level is left
  above : (low : ℕ) → from ≤ low → (d : ℕ) (y : List ℕ) (o : One S x b d y) → (o.to < low → ⊥)
      → (costs-to low < d) ⊎ ((costs-to low ≡ d) × (low ∷ [] ≡ y))
  above low h d y o not-below = go (ltb low o.to) refl
    where
      go : (t : Bool) → ltb low o.to ≡ t → (costs-to low < d) ⊎ ((costs-to low ≡ d) × (low ∷ [] ≡ y))
      go true k =
          inl (omega (
            arith,
            o.cost,
            climb-rises S.weight S.top D.dear from low o.to h (ltb-true low o.to k)
                o.rises.high,
          ))
      go false k =
          let q : low ≡ o.to = omega (arith, ltb-false low o.to k, not-below) in
          inr (ap costs-to q ∙ sym o.cost, ap (λ (l : ℕ). l ∷ []) q ∙ sym o.one)

  stay : from ≤ S.top → beq (odd from) b ≡ true → Settles (One S x b) (some (record { cost = 0; levels = from ∷ [] }))
  stay h e = sole {a = record { cost = 0; levels = from ∷ [] }}
      (record {
        to = from;
        one = refl;
        rises = record { up = omega arith; high = h; marked_stays = λ k. refl };
        bit = beq-true (odd from) b e;
        cost = sym (climb-stay S.weight from);
      })
      (λ d y o. rw (climb-stay S.weight from) at (above from (omega arith) d y o (λ l. omega (arith, o.rises.up))))

  raise : from < S.top → x.mark ≡ false → beq (odd from) b ≡ false
      → Settles (One S x b) (some (record { cost = S.weight from; levels = suc from ∷ [] }))
  unfolding odd
  raise h f e = sole {a = record { cost = S.weight from; levels = suc from ∷ [] }}
      (record {
        to = suc from;
        one = refl;
        rises = record { up = omega arith; high = h; marked_stays = λ k. absurd (true≢false (sym k ∙ f)) };
        bit = beq-false (odd from) b e;
        cost = sym (climb-step S.weight from);
      })
      (λ d y o. rw (climb-step S.weight from) at (above (suc from) (omega arith) d y o (λ l. other o (omega (arith, o.rises.up)))))
    where
      other : {d : ℕ} {y : List ℕ} (o : One S x b d y) → from ≡ o.to → ⊥
      other o q = not-self (odd from) b (beq-false (odd from) b e) (ap odd q ∙ o.bit)

  -- the cell's choice settles the cell
  keep-or-raise-law : Settles (One S x b) (keep-or-raise S x b)
  unfolding keep-or-raise
  keep-or-raise-law = go (ltb S.top x.level) (beq (odd x.level) b) x.mark (ltb x.level S.top) refl refl refl refl
    where
      same : beq (odd x.level) b ≡ false → (w : ℕ) → odd w ≡ b → x.level ≡ w → ⊥
      same f w h k = not-self (odd x.level) b (beq-false (odd x.level) b f) (ap odd k ∙ h)

      go : (p q k r : Bool) → ltb S.top x.level ≡ p → beq (odd x.level) b ≡ q → x.mark ≡ k → ltb x.level S.top ≡ r
          → Settles (One S x b)
          (cond p none
          (cond q (some (record { cost = 0; levels = x.level ∷ [] }))
          (cond k none (cond r (some (record { cost = S.weight x.level; levels = suc x.level ∷ [] })) none))))
      go true q k r e f g h = unsolved (λ d y w. let a : x.level ≤ w.to = w.rises.up in let c : w.to ≤ S.top = w.rises.high in
          omega (arith, ltb-true S.top x.level e))
      go false true k r e f g h = stay (ltb-false S.top x.level e) f
      go false false true r e f g h = unsolved (λ d y w. same f w.to w.bit (sym (w.rises.marked_stays g)))
      go false false false true e f g h = raise (ltb-true x.level S.top h) g f
      go false false false false e f g h =
          unsolved (λ d y w. let a : x.level ≤ w.to = w.rises.up in let c : w.to ≤ S.top = w.rises.high in
          same f w.to w.bit (omega (arith, ltb-false x.level S.top h)))

-- a stage is its first cell and its others
module _ (S : Steps) (n : ℕ) (x : Cell) (xs : List Cell) (b : Bool) (w : List Bool) where
  together : (c : ℕ) (y : List ℕ) → Product (One S x b) (Group S (parity n) xs w) c y → Group S (parity n) (x ∷ xs) (b ∷ w) c y
  together c y q =
      let e : y ≡ q.valid₁.to ∷ q.levels₂ = q.append ∙ ap (λ (l : List ℕ). l ++ q.levels₂) q.valid₁.one in
      rw e (record {
        raised = rise q.valid₁.rises q.valid₂.raised (q.sum ∙ ap (λ (k : ℕ). k + q.cost₂) q.valid₁.cost);
        word = ap₂ (λ (a : Bool) (l : List Bool). a ∷ l) q.valid₁.bit q.valid₂.word;
      })

  split : {c : ℕ} {y : List ℕ} → Raised S (x ∷ xs) c y → map odd y ≡ b ∷ w → Product (One S x b) (Group S (parity n) xs w) c y
  split (rise {to = v} {k = k} {new = new} p r e) f = record {
    cost₁ = climb S.weight x.level v;
    levels₁ = v ∷ [];
    cost₂ = k;
    levels₂ = new;
    valid₁ = record { to = v; one = refl; rises = p; bit = cc; cost = refl };
    valid₂ = record { raised = r; word = cc };
    sum = e;
    append = refl;
  }

module _ (S : Steps) (D : Dear S) (n : ℕ) where
  -- the stage's choice settles the stage
  parity-settles : (xs : List Cell) (w : List Bool) → Settles (Group S (parity n) xs w) (parity-choice S xs w)
  unfolding parity-choice
  parity-settles [] [] = settles-iff (λ c y. (to c y, λ g. from g.raised)) settles-empty
    where
      to : (c : ℕ) (y : List ℕ) → Empty c y → Group S (parity n) [] [] c y
      to c y empty = record { raised = still; word = refl }

      from : {c : ℕ} {y : List ℕ} → Raised S [] c y → Empty c y
      from still = empty
  parity-settles [] (b ∷ w) = unsolved (λ d y g. no y (raised-length g.raised) g.word)
    where
      no : (y : List ℕ) → length y ≡ 0 → map odd y ≡ b ∷ w → ⊥
      no y e f = let k : length (map odd y) ≡ suc (length w) = ap length f in omega (arith, length-map y odd)
  parity-settles (x ∷ xs) [] = unsolved (λ d y g. no y (raised-length g.raised) g.word)
    where
      no : (y : List ℕ) → length y ≡ suc (length xs) → map odd y ≡ [] → ⊥
      no y e f = let k : length (map odd y) ≡ 0 = ap length f in omega (arith, length-map y odd)
  parity-settles (x ∷ xs) (b ∷ w) =
      settles-iff (λ c y. (together S n x xs b w c y, λ g. split S n x xs b w g.raised g.word))
      (settles-product (keep-or-raise-law S D x b) (parity-settles xs w))

  -- so it is the choice of the search
  pub parity-chosen : choice_of S (parity n) ≡ parity-choice S
  parity-chosen = fun_ext λ xs. fun_ext λ w. solves-unique (choice-solves S (parity n) xs w) (settles-solves (parity-settles xs w))

-- THE LEVEL of a cell that shows the bit b: its own, or one higher
unfoldable pub held : Cell → Bool → ℕ
held x b = cond (beq (odd x.level) b) x.level (suc x.level)

module _ (S : Steps) where
  pub keep-held : (x : Cell) (b : Bool) (a : Solution) → keep-or-raise S x b ≡ some a → a.levels ≡ held x b ∷ []
  unfolding keep-or-raise held
  keep-held x b a = go (ltb S.top x.level) (beq (odd x.level) b) x.mark (ltb x.level S.top)
    where
      go : (p q k r : Bool)
          → cond p none
          (cond q (some (record { cost = 0; levels = x.level ∷ [] }))
          (cond k none (cond r (some (record { cost = S.weight x.level; levels = suc x.level ∷ [] })) none))) ≡ some a
          → a.levels ≡ cond q x.level (suc x.level) ∷ []
      go true q k r e = absurd (some-none a (sym e))
      go false true k r e = ap (λ (z : Solution). z.levels) (sym (some-injective _ _ e))
      go false false true r e = absurd (some-none a (sym e))
      go false false false true e = ap (λ (z : Solution). z.levels) (sym (some-injective _ _ e))
      go false false false false e = absurd (some-none a (sym e))

-- of the two bits, the one that the cell shows holds the lower level
pub held-lower : (x : Cell) (b : Bool) {xs ys : List ℕ} → Decides (beq (odd x.level) (not b)) (held x b ∷ xs) (held x (not b) ∷ ys)
unfolding held
held-lower x b {xs} {ys} = go (odd x.level) b
  where
    v : ℕ
    v = x.level

    up : v < suc v
    up = omega arith

    go : (o b : Bool) → Decides (beq o (not b)) (cond (beq o b) v (suc v) ∷ xs) (cond (beq o (not b)) v (suc v) ∷ ys)
    go true true = first_lower up
    go true false = second_lower up
    go false true = second_lower up
    go false false = first_lower up

-- a level that is raised where it does not show the bit b is the level that the choice holds
pub raised-held : (x : Cell) (b : Bool) → x.level + (x.level + one-if b) % 2 ≡ held x b
unfolding held one-if
raised-held x b = rw (mod-odd (x.level + one-if b), odd-add x.level (one-if b), odd-one-if b) (go (odd x.level) b)
  where
    go : (o b : Bool) → x.level + one-if (o +₂ b) ≡ cond (beq o b) x.level (suc x.level)
    go true true = omega arith
    go true false = omega arith
    go false true = omega arith
    go false false = omega arith
