-- The search over stages of k cells with one bit each, on cells that are all open: of the two branches of a state one asks at most k / 2
-- raises, so the search is never closed, and costs at most k / 2 raises a stage.
--   better-within, joined-within   the better of two costs no more than either, and two one after the other what both do
--   best-within, all-within        a search with one branch of each state within w, and parts one after the other
--   choice-within                  a stage's choice costs the raises that it asks
--   raises-both                    a word and the word of the other bits ask one raise of each cell between them
--   wanted-other                   where every generator begins with 1 the two branches of a state want two such words
--   one-branch, write-within       so one of them asks at most k / 2 raises, and THE WRITE of a strip is within that
--   strip-within                   the same of a strip in a layout
--   both-lead                      two cells a stage: the second generator begins with 1
use mathlib.Core.Path.{◌≡◌, refl, sym, ◌∙◌, ap, ap₂}
use mathlib.Core.Bool.{Bool, true, false, cond, not, beq}
use mathlib.Core.List.{List, [], ◌∷◌, ◌++◌, map}
use mathlib.Core.Option.{Option, none, some, some-injective}
use Prim.Native.Nat.{ℕ, zero, suc, ◌<◌, ◌≤◌, ◌+◌, ◌*◌, ◌/◌}
use native.Mathlib.Omega.{arith}
use native.Mathlib.Nat.{mul-le-mul}
use lib.Dec.{leb}
use lib.ListN.{length, drop, replicate, length-map, length-drop, length-replicate}
use lib.Seq.{length-take-le}
use borrow.Author.Tests.{lt-ltb, le-ltb, leb-true, leb-false}
use Rattle.cells.specs.Places.{list_of, Each, no_more, and_each}
use Rattle.cells.specs.Levels.{level}
use Rattle.cells.specs.Climbs.{weight_of}
use Rattle.cells.proofs.Places.{each_take, each-drop, each-list_of}
use Rattle.codes.specs.Generators.{Generators, g2, digit}
use Rattle.codes.specs.Layouts.{Layout, stage_count, cell_count}
use Rattle.codes.specs.Sequences.{◌+₂◌, Bits, odd}
use Rattle.codes.specs.Registers.{dot}
use Rattle.codes.specs.Encoders.{Encoder, digit_bits, encoder_of}
use Rattle.search.specs.Best.{Solution}
use Rattle.search.specs.Trellis.{beats, better, joined, free, best, all}
use Rattle.search.specs.Strip.{Steps, Dear, steps_of, Cell, cells_of, Meaning}
use Rattle.search.specs.Search.{sums, wanted, Stage, branch, next, stages, write}
use Rattle.search.specs.Parity.{parity, keep-or-raise, parity-choice}
use Rattle.search.specs.Layouts.{meaning_of, data_bits, strip_cells, rewrite_of, Sound}
use Rattle.search.specs.Within.{Within, Open, OneFirst}
use Rattle.search.proofs.Best.{beats-true, beats-false, no-worse-cost, some-none}
use Rattle.search.proofs.Search.{length-sums, length-labels}
use Rattle.search.proofs.OneBit.{Both}
use Rattle.search.proofs.Parity.{parity-chosen}
use Rattle.search.proofs.Layouts.{length-strip}

-- OPTIONAL SOLUTIONS. The chosen one of two costs no more than either
chosen-cost : (a b : Solution) → ((cond (beats b a) b a).cost ≤ a.cost) × ((cond (beats b a) b a).cost ≤ b.cost)
chosen-cost a b = go (beats b a) refl
  where
    go : (t : Bool) → beats b a ≡ t → ((cond t b a).cost ≤ a.cost) × ((cond t b a).cost ≤ b.cost)
    go true e = (no-worse-cost (beats-true b a e), omega arith)
    go false e = (omega arith, no-worse-cost (beats-false b a e))

-- more is within more
within_more : {m n : ℕ} {r : Option Solution} → m ≤ n → Within m r → Within n r
within_more h w = record { found = w.found; is = w.is; cheap = omega (arith, w.cheap) }

-- none is within nothing
within_none : {m : ℕ} → Within m none → ⊥
within_none w = some-none w.found (sym w.is)

within-some : {m : ℕ} {a : Solution} → Within m (some a) → a.cost ≤ m
within-some w = let e = ap (λ (z : Solution). z.cost) (some-injective _ _ w.is) in omega (arith, w.cheap)

-- the better of two is within what either is
better-within : {m : ℕ} (second : Bool) (r s : Option Solution) → Within m (cond second s r) → Within m (better r s)
unfolding better
better-within true none s w = w
better-within true (some a) none w = absurd (within_none w)
better-within true (some a) (some b) w =
    record { found = cond (beats b a) b a; is = refl; cheap = omega (arith, (chosen-cost a b).1, within-some w) }
better-within false none s w = absurd (within_none w)
better-within false (some a) none w = w
better-within false (some a) (some b) w =
    record { found = cond (beats b a) b a; is = refl; cheap = omega (arith, (chosen-cost a b).0, within-some w) }

-- one after the other
joined-within : {m n : ℕ} (r s : Option Solution) → Within m r → Within n s → Within (m + n) (joined r s)
unfolding joined
joined-within none s w v = absurd (within_none w)
joined-within (some a) none w v = absurd (within_none v)
joined-within (some a) (some b) w v = record {
  found = record { cost = a.cost + b.cost; levels = a.levels ++ b.levels };
  is = refl;
  cheap = omega (arith, within-some w, within-some v);
}

-- THE SEARCH, where at each stage one branch of every state is within w: it is within w a stage
module _ {G S : Type 0} (branch : G → S → Bool → Option Solution) (next : G → S → Bool → S) (w : ℕ) (Ok : G → Type 0)
    (one : (g : G) → Ok g → (s : S) → (u : Bool) × Within w (branch g s u)) where
  best-within : {gs : List G} → Each Ok gs → (s : S) → Within (length gs * w) (best branch next gs s)
  unfolding best
  best-within no_more s = record { found = free; is = refl; cheap = omega arith }
  best-within (and_each {g = g} {gs = gs} o os) s =
      within_more (omega arith) (go (one g o s).0 (one g o s).1 (best-within os (next g s (one g o s).0)))
    where
      go : (u : Bool) → Within w (branch g s u) → Within (length gs * w) (best branch next gs (next g s u))
          → Within (w + length gs * w)
          (better (joined (branch g s false) (best branch next gs (next g s false)))
          (joined (branch g s true) (best branch next gs (next g s true))))
      go true p q = better-within true _ _ (joined-within _ _ p q)
      go false p q = better-within false _ _ (joined-within _ _ p q)

-- parts one after the other
pub all-within : (solution : ℕ → Option Solution) (w n : ℕ) (f : ℕ → ℕ) → ((i : ℕ) → i < n → Within w (solution (f i)))
    → Within (n * w) (all solution (list_of n f))
unfolding all list_of
all-within solution w zero f h = record { found = free; is = refl; cheap = omega arith }
all-within solution w (suc n) f h =
    within_more (omega arith)
    (joined-within _ _ (h 0 (omega arith)) (all-within solution w n (λ i. f (suc i)) (λ i l. h (suc i) (omega arith))))

-- ONE BIT A CELL. 1 where a cell does not show the bit b
asks : Cell → Bool → ℕ
asks x b = cond (beq (odd x.level) b) 0 1

-- the raises that a word asks of the cells of a stage
raises : List Cell → List Bool → ℕ
raises [] v = 0
raises (x ∷ xs) [] = 0
raises (x ∷ xs) (b ∷ v) = asks x b + raises xs v

-- a cell's choice costs the raise that is asked
keep-within : (S : Steps) (w : ℕ) (x : Cell) → Open S w x → (b : Bool) → Within (asks x b * w) (keep-or-raise S x b)
unfolding keep-or-raise asks
keep-within S w x o b =
    rw (le-ltb S.top x.level (omega (arith, o.below)), o.free_to, lt-ltb x.level S.top o.below)
    (go (beq (odd x.level) b))
  where
    go : (q : Bool)
        → Within (cond q 0 1 * w)
        (cond q (some (record { cost = 0; levels = x.level ∷ [] }))
        (some (record { cost = S.weight x.level; levels = suc x.level ∷ [] })))
    go true = record { found = record { cost = 0; levels = x.level ∷ [] }; is = refl; cheap = omega arith }
    go false = record {
      found = record { cost = S.weight x.level; levels = suc x.level ∷ [] };
      is = refl;
      cheap = omega (arith, o.step);
    }

-- a stage's choice costs the raises that are asked
choice-within : (S : Steps) (w : ℕ) {xs : List Cell} → Each (Open S w) xs → (v : List Bool) → length v ≡ length xs
    → Within (raises xs v * w) (parity-choice S xs v)
unfolding parity-choice raises
choice-within S w no_more [] e = record { found = free; is = refl; cheap = omega arith }
choice-within S w no_more (b ∷ v) e = let z : suc (length v) ≡ 0 = e in absurd (omega arith)
choice-within S w (and_each {g = x} {gs = xs} o os) [] e = let z : ◌≡◌ {A = ℕ} 0 (suc (length xs)) = e in absurd (omega arith)
choice-within S w (and_each {g = x} {gs = xs} o os) (b ∷ v) e =
    let k : length v ≡ length xs = omega arith in
    within_more (omega arith) (joined-within _ _ (keep-within S w x o b) (choice-within S w os v k))

-- A WORD AND THE WORD OF THE OTHER BITS ask a raise of each cell between them
asks_both : (x : Cell) (b : Bool) → asks x b + asks x (not b) ≡ 1
unfolding asks
asks_both x b = go (odd x.level) b
  where
    go : (o b : Bool) → cond (beq o b) 0 1 + cond (beq o (not b)) 0 1 ≡ 1
    go true true = refl
    go true false = refl
    go false true = refl
    go false false = refl

raises-both : (xs : List Cell) (v : List Bool) → length v ≡ length xs → raises xs v + raises xs (map not v) ≡ length xs
unfolding raises
raises-both [] v e = refl
raises-both (x ∷ xs) [] e = let z : ◌≡◌ {A = ℕ} 0 (suc (length xs)) = e in absurd (omega arith)
raises-both (x ∷ xs) (b ∷ v) e =
    let k : length v ≡ length xs = omega arith in
    omega (arith, asks_both x b, raises-both xs v k)

-- THE TWO BRANCHES of a state want a word and the word of the other bits, where every generator begins with 1
sums-other : (s : List Bool) {Gs : List (List Bool)} → Each OneFirst Gs → (xs : List Bool)
    → sums (true ∷ s) Gs xs ≡ map not (sums (false ∷ s) Gs xs)
unfolding sums dot
sums-other s no_more xs = refl
sums-other s (and_each l ls) [] = refl
sums-other s (and_each {g = G} l ls) (x ∷ xs) =
    ap₂ (λ (b : Bool) (v : List Bool). b ∷ v) (rw l.is (go (dot l.others s) x)) (sums-other s ls xs)
  where
    go : (d x : Bool) → (true +₂ d) +₂ x ≡ not ((false +₂ d) +₂ x)
    go true true = refl
    go true false = refl
    go false true = refl
    go false false = refl

wanted-other : (E : Encoder) → Each OneFirst E.others → (s xs : List Bool)
    → wanted E (true ∷ s) xs ≡ map not (wanted E (false ∷ s) xs)
unfolding wanted dot
wanted-other E l s xs = ap₂ (λ (b : Bool) (v : List Bool). b ∷ v) (go (dot E.first s)) (sums-other s l xs)
  where
    go : (d : Bool) → true +₂ d ≡ not (false +₂ d)
    go true = refl
    go false = refl

-- THE STRIP: a code every generator of which begins with 1, n stages of as many cells as it has generators, all of them open
module _ (E : Encoder) (lead : Each OneFirst E.others) (k : ℕ) (fit : k ≡ suc (length E.others)) (S : Steps) (w : ℕ) where
  -- a stage of k open cells, with a label for each generator after the first
  record Ready (g : Stage) : Type 0 where
    size : length g.cells ≡ k
    labelled : length g.adds ≡ length E.others
    open-cells : Each (Open S w) g.cells

  -- of the two branches of a state one asks at most half of the cells a raise
  one-branch : (g : Stage) → Ready g → (s : List Bool) → (u : Bool) × Within (k / 2 * w) (branch E (parity-choice S) g s u)
  unfolding branch wanted
  one-branch g o s = go (leb (raises g.cells v) (k / 2)) refl
    where
      v : List Bool
      v = wanted E (false ∷ s) g.adds

      len : length v ≡ length g.cells
      len = ap suc (length-sums (false ∷ s) E.others g.adds o.labelled) ∙ sym (o.size ∙ fit)

      go : (t : Bool) → leb (raises g.cells v) (k / 2) ≡ t
          → (u : Bool) × Within (k / 2 * w) (parity-choice S g.cells (wanted E (u ∷ s) g.adds))
      go true p =
          let h : raises g.cells v ≤ k / 2 = leb-true _ _ p in
          (false, within_more (mul-le-mul h (omega arith)) (choice-within S w o.open-cells v len))
      go false p =
          let h : raises g.cells (map not v) ≤ k / 2 = omega (
            arith,
            leb-false (raises g.cells v) (k / 2) p,
            raises-both g.cells v len,
            o.size,
          ) in (
            true,
            rw (wanted-other E lead s g.adds)
                (within_more (mul-le-mul h (omega arith)) (choice-within S w o.open-cells (map not v) (length-map v not ∙ len))),
          )

  module _ (d : ℕ → Bits) where
    stages-ready : (n t : ℕ) (old : List Cell) → length old ≡ k * n → Each (Open S w) old → Each Ready (stages E d k t n old)
    unfolding stages
    stages-ready zero t old e o = no_more
    stages-ready (suc n) t old e o = and_each
        (record {
          size = length-take-le k old (omega arith);
          labelled = length-labels E.memory E.first (length E.others) d t;
          open-cells = each_take k o;
        })
        (stages-ready n (suc t) (drop k old) (length-drop k old ∙ omega arith) (each-drop k o))

    length-stages : (n t : ℕ) (old : List Cell) → length (stages E d k t n old) ≡ n
    unfolding stages
    length-stages zero t old = refl
    length-stages (suc n) t old = ap suc (length-stages n (suc t) (drop k old))

    -- THE WRITE of such a strip is never none, and costs at most half of a stage's cells a raise, at every stage
    pub write-within : (n : ℕ) (old : List Cell) → length old ≡ k * n → Each (Open S w) old
        → Within (n * (k / 2 * w)) (write E d (parity-choice S) k n old)
    unfolding write
    write-within n old e o =
        rw (length-stages n 0 old) at
        (best-within (branch E (parity-choice S)) (next E) (k / 2 * w) Ready one-branch (stages-ready n 0 old e o)
        (replicate E.memory false))

-- THE STRIP OF A LAYOUT with one bit a cell whose cells are unmarked and below level k, with weights of which the first k are at most w
module _ (lay : Layout) (bit_a_cell : meaning_of lay ≡ parity lay.cells) (G : Generators) (Z : Sound lay G)
    (lead : Each OneFirst (encoder_of G).others) (W : List ℕ) (D : Dear (steps_of W)) (k w : ℕ) (three : k ≤ 3)
    (most : (l : ℕ) → l < k → weight_of W l ≤ w) (L : ℕ) where
  -- as many cells a stage as there are generators
  cells_fit : lay.cells ≡ suc (length (encoder_of G).others)
  unfolding meaning_of encoder_of
  cells_fit =
      let y = replicate {A = ℕ} lay.cells 0 in
      sym (length-replicate {A = ℕ} lay.cells 0) ∙ sym (length-map y odd) ∙ sym (ap (λ (M : Meaning). length (M.means y)) bit_a_cell)
      ∙ length-map (lay.shows y) odd ∙ Z.shown y (length-replicate {A = ℕ} lay.cells 0)
      ∙ ap suc (sym (length-map G.others _ ∙ Z.generators))

  pub strip-within : (strip : List ℕ) (marks : ℕ → Bool) (content : List ℕ)
      → ((c : ℕ) → c < cell_count lay L → (marks c ≡ false) × (level strip c < k))
      → Within (stage_count lay L * (lay.cells / 2 * w)) (rewrite_of lay G W L strip marks content)
  unfolding rewrite_of strip_cells cells_of cell_count
  strip-within strip marks content low =
      rw (bit_a_cell, parity-chosen (steps_of W) D lay.cells)
      (write-within (encoder_of G) lead lay.cells cells_fit (steps_of W) w (data_bits lay content) (stage_count lay L)
      (strip_cells lay L strip marks) (length-strip lay L strip marks)
      (each-list_of (cell_count lay L) _
      (λ c h. record { free_to = (low c h).0; below = omega (arith, (low c h).1); step = most (level strip c) (low c h).1 })))

-- TWO CELLS A STAGE: the second generator begins with 1
pub both-lead : {G : Generators} → Both G → Each OneFirst (encoder_of G).others
unfolding encoder_of list_of odd
both-lead {G} K = rw K.two (and_each second no_more)
  where
    second : OneFirst (digit_bits G.memory (g2 G))
    second = record { others = list_of G.memory (λ i. odd (digit G.memory (g2 G) (suc i))); is = rw K.g2-leads }
