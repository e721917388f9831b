-- THE STRIP: `write` finds the best of all level lists that read as the data, or there is none. For any encoder, data, weights and marks,
-- and any meaning of levels with a choice that solves its stage.
--   write-solves   the write of a strip solves the strip's problem
--   room-same      more memory than the generators reach changes no write
use Prim.{Unit, tt}
use mathlib.Core.Path.{◌≡◌, refl, sym, ◌∙◌, ap, ap₂}
use mathlib.Core.Bool.{Bool, true, false, cond}
use mathlib.Core.List.{List, [], ◌∷◌, ◌++◌}
use Prim.Native.Nat.{ℕ, zero, suc, ◌<◌, ◌≤◌, ◌+◌}
use native.Mathlib.Omega.{arith}
use native.Mathlib.Nat.{not-suc-le-zero}
use lib.Dec.{eqb}
use lib.ListN.{length, get_or, take, drop, replicate, take-append-drop}
use lib.Seq.{take_at, drop_at}
use borrow.Author.Tests.{eq-eqb, ne_eqb}
use Rattle.codes.specs.Sequences.{◌+₂◌, Bits, zeros, Agree}
use Rattle.codes.specs.Registers.{push, quotient}
use Rattle.cells.specs.Places.{Each, no_more, and_each}
use Rattle.search.specs.Best.{Solves, empty, digit}
use Rattle.search.specs.Trellis.{Valid}
use Rattle.codes.specs.Encoders.{Encoder, InMemory}
use Rattle.search.specs.Strip.{Steps, Cell, Raised, still, groups, Full, done, more, Meaning, words, Rewrite, Group}
use Rattle.search.specs.Search.{labels, sums, wanted, Stage, Choice, branch, admit, next, stages, write, Chooses, with_memory}
use Rattle.codes.proofs.Sequences.{agree-down, agree_refl, agree_trans}
use Rattle.codes.proofs.Registers.{hist, hist-agree, hist-zero, conv-dot, dot-state, push-state}
use Rattle.codes.specs.Coset.{column, rest, code_word, Written}
use Rattle.codes.proofs.Coset.{written-reads, reads-written}
use Rattle.search.proofs.Trellis.{best-solves}
use Rattle.search.proofs.Best.{solves-iff, solves-unique}
use Rattle.search.proofs.Strip.{Split, raised-split, raised-append, raised-length, full-raised, group-width, length-words}
use Rattle.search.proofs.Strip.{words-sized}

-- a sequence with another bit at stage t
upd : Bits → ℕ → Bool → Bits
upd u t b i = cond (eqb i t) b (u i)

upd-at : (u : Bits) (t : ℕ) (b : Bool) → upd u t b t ≡ b
unfolding upd
upd-at u t b = ap (λ (x : Bool). cond x b (u t)) (eq-eqb t t refl)

upd-below : (u : Bits) (t : ℕ) (b : Bool) → Agree t (upd u t b) u
unfolding upd
upd-below u t b = record { at = λ i h. ap (λ (x : Bool). cond x b (u i)) (ne_eqb i t (λ e. omega arith)) }

-- the length of a wanted word
pub length-sums : (h : List Bool) (Gs : List (List Bool)) (xs : List Bool) → length xs ≡ length Gs → length (sums h Gs xs) ≡ length Gs
unfolding sums
length-sums h [] xs e = refl
length-sums h (G ∷ Gs) [] e = let z : ◌≡◌ {A = ℕ} 0 (suc (length Gs)) = e in absurd (omega arith)
length-sums h (G ∷ Gs) (x ∷ xs) e = let k : length xs ≡ length Gs = omega arith in ap suc (length-sums h Gs xs k)

-- the wanted word of the digits in a register is the word of the digits
module _ (m : ℕ) (gs : List Bool) (u : Bits) (t : ℕ) where
  sums-rest : {Gs : List (List Bool)} → Each (λ G. length G ≤ suc m) Gs → (d : ℕ → Bits)
      → sums (u t ∷ take m (hist m t u)) Gs (labels m gs (length Gs) d t) ≡ rest m gs u t Gs d
  unfolding sums labels rest hist
  sums-rest no_more d = refl
  sums-rest (and_each {g = G} h hs) d =
      ap₂ (λ (b : Bool) (w : List Bool). (b +₂ quotient m gs (d 0) t) ∷ w) (dot-state m G (u t) (hist m t u) h ∙ sym (conv-dot m G u t))
      (sums-rest hs (λ j. d (suc j)))

-- and of its labels
pub length-labels : (m : ℕ) (gs : List Bool) (r : ℕ) (d : ℕ → Bits) (t : ℕ) → length (labels m gs r d t) ≡ r
unfolding labels
length-labels m gs zero d t = refl
length-labels m gs (suc r) d t = ap suc (length-labels m gs r (λ j. d (suc j)) t)

-- a code, and the data of a strip
module _ (E : Encoder) (H : InMemory E) (d : ℕ → Bits) where
  wanted-word : (u : Bits) (t : ℕ)
      → wanted E (u t ∷ take E.memory (hist E.memory t u)) (labels E.memory E.first (length E.others) d t) ≡ code_word E d u t
  unfolding wanted code_word hist
  wanted-word u t =
      ap₂ (λ (b : Bool) (w : List Bool). b ∷ w)
      (dot-state E.memory (true ∷ E.first) (u t) (hist E.memory t u) (omega (arith, H.first_fits))
      ∙ sym (conv-dot E.memory (true ∷ E.first) u t))
      (sums-rest E.memory E.first u t H.others_fit d)

  -- the words from stage t on are those of the digits u
  Spells : Bits → ℕ → List (List Bool) → Type 0
  Spells u t [] = Unit {0}
  Spells u t (w ∷ W) = (w ≡ code_word E d u t) × Spells u (suc t) W

  spells_at : (u : Bits) (t : ℕ) (W : List (List Bool)) → Spells u t W → (i : ℕ) → i < length W → get_or W i [] ≡ code_word E d u (i + t)
  unfolding Spells
  spells_at u t [] s i h = absurd (not-suc-le-zero h)
  spells_at u t (w ∷ W) s zero h = s.0 ∙ ap (code_word E d u) (omega arith)
  spells_at u t (w ∷ W) s (suc i) h = spells_at u (suc t) W s.1 i (omega arith) ∙ ap (code_word E d u) (omega arith)

  spells-from : (u : Bits) (t : ℕ) (W : List (List Bool)) → ((i : ℕ) → i < length W → get_or W i [] ≡ code_word E d u (i + t)) → Spells u t W
  unfolding Spells
  spells-from u t [] f = tt
  spells-from u t (w ∷ W) f = (
    f 0 (omega arith)
        ∙ ap (code_word E d u) (omega arith),
    spells-from u (suc t) W (λ i h. f (suc i) (omega arith) ∙ ap (code_word E d u) (omega arith)),
  )

  module _ (S : Steps) (M : Meaning) where
    -- what the digits u write is valid
    complete : (u : Bits) {n : ℕ} {old : List Cell} → Full M.cells n old → (t : ℕ) {c : ℕ} {y : List ℕ} → Raised S old c y
        → Spells u t (words M n y)
        → Valid (admit E S M) (next E) (stages E d M.cells t n old) (take E.memory (hist E.memory t u)) c y
    unfolding Valid stages admit next words groups Spells hist
    complete u done t still s = empty
    complete u (more {n = n} {l = old} e f) t {y = y} r s =
        let q : Split S M.cells old _ y = raised-split M.cells r in
        digit (u t) (record {
          cost₁ = q.cost₁;
          levels₁ = take M.cells y;
          cost₂ = q.cost₂;
          levels₂ = drop M.cells y;
          valid₁ = record { raised = q.raised₁; word = s.0 ∙ sym (wanted-word u t) };
          valid₂ = rw push-state (complete u f (suc t) q.raised₂ s.1);
          sum = q.sum;
          append = sym (take-append-drop M.cells y);
        })

    -- what is valid is written by some digits, which go on from those before
    record Found (u : Bits) (n t : ℕ) (old : List Cell) (c : ℕ) (y : List ℕ) : Type 0 where
      by : Bits
      past : Agree t by u
      raised : Raised S old c y
      spells : Spells by t (words M n y)

    -- one stage more, before those found
    module _ (u : Bits) (b : Bool) (n t : ℕ) (old : List Cell) (e : length (take M.cells old) ≡ M.cells) where
      found : (k : ℕ) (z : List ℕ)
          → Group S M (take M.cells old)
          (wanted E (b ∷ take E.memory (hist E.memory t u)) (labels E.memory E.first (length E.others) d t)) k z
          → (j : ℕ) (x : List ℕ) → Found (upd u t b) n (suc t) (drop M.cells old) j x → Found u (suc n) t old (k + j) (z ++ x)
      unfolding words groups Spells
      found k z q j x r = record {
        by = r.by;
        past = past;
        raised = rw (take-append-drop M.cells old) at (raised-append q.raised r.raised);
        spells = (
          ap M.means (take_at z x M.cells len) ∙ q.word
              ∙ ap₂ (λ (a : Bool) (h : List Bool). wanted E (a ∷ take E.memory h)
              (labels E.memory E.first (length E.others) d t)) (sym (r.past.at t (omega arith) ∙ upd-at u t b))
              (sym (hist-agree E.memory t past))
              ∙ wanted-word r.by t,
          rw (drop_at z x M.cells len) r.spells,
        );
      }
        where
          len : length z ≡ M.cells
          len = raised-length q.raised ∙ e

          past : Agree t r.by u
          past = agree_trans (agree-down r.past) (upd-below u t b)

    state : (u : Bits) (t : ℕ) (b : Bool) → push E.memory b (take E.memory (hist E.memory t u))
        ≡ take E.memory (hist E.memory (suc t) (upd u t b))
    unfolding hist
    state u t b =
        push-state E.memory b (hist E.memory t u)
        ∙ ap₂ (λ (a : Bool) (h : List Bool). take E.memory (a ∷ h)) (sym (upd-at u t b))
        (sym (hist-agree E.memory t (upd-below u t b)))

    sound : (u : Bits) {n : ℕ} {old : List Cell} → Full M.cells n old → (t : ℕ) (c : ℕ) (y : List ℕ)
        → Valid (admit E S M) (next E) (stages E d M.cells t n old) (take E.memory (hist E.memory t u)) c y → Found u n t old c y
    unfolding Valid stages admit next words groups Spells
    sound u done t c y empty = record { by = u; past = agree_refl t u; raised = still; spells = tt }
    sound u (more {n = n} {l = old} e f) t c y (digit b q) =
        rw (q.sum, q.append)
        (found u b n t old e q.cost₁ q.levels₁ q.valid₁ q.cost₂ q.levels₂
        (sound (upd u t b) f (suc t) q.cost₂ q.levels₂ (rw (state u t b) at q.valid₂)))

    module _ (choose : Choice) (K : Chooses S M (suc (length E.others)) choose) where
      -- a stage has its cells, and a label for each generator after the first
      unfoldable pub Ok : Stage → Type 0
      Ok g = (length g.cells ≡ M.cells) × (length g.adds ≡ length E.others)

      -- a branch is the best of what its digit admits
      branch-law : (g : Stage) → Ok g → (s : List Bool) (u : Bool) → Solves (admit E S M g s u) (branch E choose g s u)
      unfolding Ok admit branch wanted
      branch-law g o s u = K.solves g.cells _ o.0 (ap suc (length-sums (u ∷ s) E.others g.adds o.1))

      -- the stages of a strip are such
      stages-ok : {n : ℕ} {old : List Cell} → Full M.cells n old → (t : ℕ) → Each Ok (stages E d M.cells t n old)
      unfolding Ok stages
      stages-ok done t = no_more
      stages-ok (more e f) t = and_each (e, length-labels E.memory E.first (length E.others) d t) (stages-ok f (suc t))

      -- THE STRIP: write finds the best of all that is written, or nothing can be written
      pub write-solves : (n : ℕ) (old : List Cell) → Full M.cells n old
          → Solves (Rewrite S M E d n old) (write E d choose M.cells n old)
      unfolding write admit
      write-solves n old p =
          solves-iff (λ c y. (to c y, from c y))
          (best-solves (branch E choose) (next E) (admit E S M) (λ g. length g.cells) Ok branch-law
          (λ g s u. group-width S M g.cells _) (stages-ok p 0) (replicate E.memory false))
        where
          to : (c : ℕ) (y : List ℕ) → Valid (admit E S M) (next E) (stages E d M.cells 0 n old) (replicate E.memory false) c y
              → Rewrite S M E d n old c y
          to c y w =
              let f : Found zeros n 0 old c y = sound zeros p 0 c y (rw (← (hist-zero E.memory zeros)) at w) in
              record {
                raised = f.raised;
                reads = written-reads E H d n (words M n y) f.by
                    (record {
                      at = λ t h. spells_at f.by 0 (words M n y) f.spells t (rw (length-words M n y) h)
                          ∙ ap (code_word E d f.by) (omega arith);
                    });
              }

          from : (c : ℕ) (y : List ℕ) → Rewrite S M E d n old c y
              → Valid (admit E S M) (next E) (stages E d M.cells 0 n old) (replicate E.memory false) c y
          from c y w =
              let u : Bits = quotient E.memory E.first (column 0 (words M n y)) in
              let s : Written E d u n (words M n y) =
              reads-written E H d n (words M n y) (words-sized M _ K.sized (full-raised M.cells p w.raised)) w.reads in
              rw (hist-zero E.memory u) at
              (complete u p 0 w.raised
              (spells-from u 0 (words M n y) (λ i h. s.at i (rw (length-words M n y) at h) ∙ ap (code_word E d u) (omega arith))))

-- ROOM in the state beyond what the generators reach changes no write
pub room-same : (E : Encoder) (m : ℕ) → InMemory E → InMemory (with_memory m E)
    → (d : ℕ → Bits) (S : Steps) (M : Meaning) (choose : Choice) → Chooses S M (suc (length E.others)) choose
    → (n : ℕ) (old : List Cell) → Full M.cells n old
    → write (with_memory m E) d choose M.cells n old ≡ write E d choose M.cells n old
room-same E m H K d S M choose C n old p =
    let same : Solves (Rewrite S M E d n old) (write (with_memory m E) d choose M.cells n old) =
    solves-iff
    (λ c y. (
      λ w. record { raised = w.raised; reads = record { each = w.reads.each } },
      λ w. record {
        raised = w.raised;
        reads = record { each = w.reads.each };
      },
    )) (write-solves (with_memory m E) K d S M choose C n old p) in
    solves-unique same (write-solves E H d S M choose C n old p)
