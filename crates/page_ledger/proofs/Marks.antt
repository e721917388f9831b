-- WHAT A MAP DOES to the calls. For any L, S and weights, and both codes.
--   unmarked-write             with a map that marks no cell of the page a write is the one without a map
--   unmarked-list              and so is a list
--   unmarked-erase             and an erase empties every cell
--   zero_map, zero-map-write   so it is with a map of zeros, and so are a list and an erase (zero-map-list, zero-map-erase)
--   more-marks-cost            to mark more cells never makes a write cheaper
--   more-marks-spent           nor lets a spent page take the data
--   marked-bits                a write leaves the three bits of a marked cell, whatever its answer, and so does a list (list-marked-bits)
--   stays-free                 a write of what the page reads as costs nothing and leaves it as it is, whatever is marked
--   all-marked-done            with every cell marked a page takes only what it reads as
--   all-marked-spent           and is spent for everything else
--   erased-reads               an erased page reads as zeros
--   all-marked-erased          so with every cell marked at level 0 it takes only zeros
use mathlib.Core.Path.{◌≡◌, refl, sym, ◌∙◌, ap, ap₂, fun_ext}
use mathlib.Core.Bool.{Bool, true, false, cond}
use mathlib.Core.List.{List}
use mathlib.Core.Option.{Option, none, some}
use Prim.Native.Nat.{ℕ, suc, ◌<◌, ◌≤◌, ◌+◌, ◌*◌, ◌%◌}
use native.Mathlib.Omega.{arith}
use lib.Dec.{ltb}
use lib.IntN.{ℤ}
use lib.ListN.{length, replicate, length-replicate}
use borrow.Author.Tests.{eq-eqb}
use Rattle.cells.specs.Bytes.{bit_of, Octets}
use Rattle.cells.specs.Levels.{level}
use Rattle.cells.specs.Marks.{emptied}
use Rattle.cells.specs.Raising.{start_of, start_in, triple}
use Rattle.cells.proofs.Places.{zeros-at, sum_of-zero}
use Rattle.cells.proofs.Raising.{raised_to-keeps}
use Rattle.cells.proofs.Marks.{zeros-bit, zero-map, emptied-same, emptied-none}
use Rattle.codes.specs.Generators.{Generators}
use Rattle.codes.specs.Layouts.{one_bit, cell_count, byte_count, map_count}
use Rattle.codes.specs.Reading.{ago, sum_bit, data_bit}
use Rattle.codes.specs.Taps.{first_bit, second_bit}
use Rattle.codes.proofs.Layouts.{one_bit-data, one_bit-cells, one_bit-bytes}
use Rattle.search.specs.Layouts.{unmarked}
use Rattle.demand.specs.Jobs.{Job}
use Rattle.demand.specs.Reading.{strip_levels, read_page}
use Rattle.demand.specs.Demand.{Could}
use Rattle.demand.proofs.Reading.{reads_of}
use Rattle.demand.proofs.Marks.{Fewer, SameMarks, could-fewer, cheapest-fewer, spent-more, spent-lower, page-marks, strip-marks}
use Rattle.demand.proofs.Marks.{stay-could, free-stay, stay-page, all-marked}
use Rattle.refusals.specs.Refusals.{numbered, kept}
use Rattle.refusals.proofs.Refusals.{weighted-in-order, same-ground, erasing-shape, same-erasing}
use Rattle.page_promises.specs.Writes.{job_answer, job_page, marked_by, map_size, ground_with, job_with, answer_with, page_with, answer_of, page_by}
use Rattle.page_promises.specs.Promise.{Promised, WroteWith, done, spent, refused}
use Rattle.page_promises.specs.Lists.{data_of, course_after, unless_refused, ground_of, list_with}
use Rattle.page_ledger.specs.Ledger.{erasing}
use Rattle.page_ledger.specs.Marks.{RightMap, NoneMarked}
use Rattle.refusals.specs.declared.Refusal.{Refusal}
use Rattle.page_answers.specs.declared.Answer.{Answer}
use Rattle.page_answers.specs.declared.Answer.TheVariants as A
use Rattle.page_promises.proofs.Promise.{job-in-order, wrote_by, wrote, one-ground, done-not-spent}
use Rattle.page_ledger.proofs.Ledger.{erased-level, list-keeps}

-- NO CELL MARKED. With a map that marks no cell of the page a write is the one without a map: its answer and the page after it
module _ {map : Option (List ℕ)} (L S : ℕ) (N : NoneMarked L S map) where
  pub unmarked-write : (W : List ℕ) (code : ℕ) (before content : List ℕ) (start : ℕ → ℕ)
      → (answer_with map W code L S before content ≡ answer_of W code L S before content)
      × (page_with map W code L S before content start ≡ page_by W code L S before content start)
  unfolding answer_with page_with job_answer job_page
  unmarked-write W code before content start =
      rw (
        same-ground none (map_size map) W code L S (length before) (length content) N.right,
        page-marks (job_with none W code L S before content) same,
        strip-marks (job_with none W code L S before content) same,
      )
      (refl, refl)
    where
      same : SameMarks (job_with none W code L S before content) (marked_by map) unmarked
      same = record { same = N.none_marked }

  -- and so is a list, its answer and the page after it
  pub unmarked-list : (W : List ℕ) (code count : ℕ) (before content : List ℕ) (start : ℕ → ℕ)
      → list_with map W code L S count before content start ≡ list_with none W code L S count before content start
  unfolding list_with
  unmarked-list W code count before content start =
      rw (same-ground (some count) (map_size map) W code L S (length before) (length content) N.right) (ap₂
      (λ (answers : List ℕ → List ℕ → Answer) (pages : List ℕ → List ℕ → List ℕ).
      unless_refused (ground_of none W code L S count before content) (course_after answers pages (data_of L S content) before count) before)
      (fun_ext (λ page. fun_ext (λ one. (unmarked-write W code page one start).0)))
      (fun_ext (λ page. fun_ext (λ one. (unmarked-write W code page one start).1))))

  -- and so is an erase: its ground, and the page after it
  pub unmarked-erase : (tenths : ℤ) (page : List ℕ)
      → (erasing map L S tenths page ≡ erasing none L S tenths page)
      × (kept (erasing map L S tenths page) (emptied (marked_by map) page) page
      ≡ kept (erasing none L S tenths page) (replicate (length page) 0) page)
  unmarked-erase tenths page = (same, rw same (go _ refl))
    where
      same : erasing map L S tenths page ≡ erasing none L S tenths page
      same = same-erasing (map_size map) L S (length page) tenths N.right

      -- an erase in order empties all cells of the page
      inside : erasing none L S tenths page ≡ none → (c : ℕ) → 3 * c < 8 * length page → c < cell_count one_bit L * S
      inside e c h =
          let l : length page ≡ 6 * L * S = rw (one_bit-bytes L) at (erasing-shape none L S (length page) tenths e).page_is in
          rw (one_bit-cells L) (omega arith)

      go : (g : Option Refusal) → erasing none L S tenths page ≡ g
          → kept g (emptied (marked_by map) page) page ≡ kept g (replicate (length page) 0) page
      go none e = emptied-same (marked_by map) unmarked page (λ c h. N.none_marked c (inside e c h)) ∙ emptied-none page
      go (some r) e = refl

-- A MAP OF ZEROS of the right length
abbrev pub zero_map : ℕ → ℕ → Option (List ℕ)
zero_map L S = some (replicate (map_count one_bit L * S) 0)

module _ (L S : ℕ) where
  -- marks no cell
  zeros-unmarked : NoneMarked L S (zero_map L S)
  zeros-unmarked = record {
    right = rw (length-replicate {A = ℕ} (map_count one_bit L * S) 0, eq-eqb (map_count one_bit L * S) (map_count one_bit L * S) refl);
    none_marked = λ c h. ap (λ (m : ℕ → Bool). m c) (zero-map (map_count one_bit L * S));
  }

  -- so a write with it is the one without a map
  pub zero-map-write : (W : List ℕ) (code : ℕ) (before content : List ℕ) (start : ℕ → ℕ)
      → (answer_with (zero_map L S) W code L S before content ≡ answer_of W code L S before content)
      × (page_with (zero_map L S) W code L S before content start ≡ page_by W code L S before content start)
  zero-map-write = unmarked-write L S zeros-unmarked

  -- and so is a list
  pub zero-map-list : (W : List ℕ) (code count : ℕ) (before content : List ℕ) (start : ℕ → ℕ)
      → list_with (zero_map L S) W code L S count before content start ≡ list_with none W code L S count before content start
  zero-map-list = unmarked-list L S zeros-unmarked

  -- and so is an erase
  pub zero-map-erase : (tenths : ℤ) (page : List ℕ)
      → (erasing (zero_map L S) L S tenths page ≡ erasing none L S tenths page)
      × (kept (erasing (zero_map L S) L S tenths page) (emptied (marked_by (zero_map L S)) page) page
      ≡ kept (erasing none L S tenths page) (replicate (length page) 0) page)
  zero-map-erase = unmarked-erase L S zeros-unmarked

-- MORE MARKS, and the same page, data, code and weights
module _ (few more : Option (List ℕ)) (W : List ℕ) (code L S : ℕ) (before content : List ℕ) (b : Octets content)
    (few-right : RightMap L S few) (more-right : RightMap L S more)
    (also : (c : ℕ) → c < cell_count one_bit L * S → marked_by few c ≡ true → marked_by more c ≡ true) where
  -- the two are refused on the same ground
  one-for-both : ground_with few W code L S before content ≡ ground_with more W code L S before content
  one-for-both =
      same-ground none (map_size few) W code L S (length before) (length content) few-right
      ∙ sym (same-ground none (map_size more) W code L S (length before) (length content) more-right)

  -- and the job is the same but for the marks
  fewer : Fewer (job_with none W code L S before content) (marked_by few) (marked_by more)
  fewer = record { also = also }

  -- a write with more marks that is done is done with fewer, at no higher cost
  pub more-marks-cost : {dear : ℕ} → answer_with more W code L S before content ≡ A.Done dear
      → (cost : ℕ) × (answer_with few W code L S before content ≡ A.Done cost) × (cost ≤ dear)
  more-marks-cost {dear} e = go (rw e at (wrote more W code L S before content b)) _ refl (wrote few W code L S before content b)
    where
      go : WroteWith more W code L S before content (page_with more W code L S before content start_of) (A.Done dear)
          → (r : Answer) → answer_with few W code L S before content ≡ r
          → WroteWith few W code L S before content (page_with few W code L S before content start_of) r
          → (cost : ℕ) × (answer_with few W code L S before content ≡ A.Done cost) × (cost ≤ dear)
      go (done f p) r g (done {cost = cost} h q) =
          (cost, g, cheapest-fewer (job_with none W code L S before content) fewer q p)
      go (done f p) r g (spent h q i) = absurd (q.no_page _ (could-fewer (job_with none W code L S before content) fewer p.could))
      go (done f p) r g (refused h i) = absurd (one-ground (one-for-both ∙ f) h)

  -- a page that is spent with fewer marks is spent with more, at the same strip or a lower one
  pub more-marks-spent : {k : ℕ} → answer_with few W code L S before content ≡ A.Spent k
      → (j : ℕ) × (answer_with more W code L S before content ≡ A.Spent j) × (j ≤ k)
  more-marks-spent {k} e = go (rw e at (wrote few W code L S before content b)) _ refl (wrote more W code L S before content b)
    where
      go : WroteWith few W code L S before content (page_with few W code L S before content start_of) (A.Spent k)
          → (r : Answer) → answer_with more W code L S before content ≡ r
          → WroteWith more W code L S before content (page_with more W code L S before content start_of) r
          → (j : ℕ) × (answer_with more W code L S before content ≡ A.Spent j) × (j ≤ k)
      go (spent f p i) r g (done h q) = absurd (spent-more (job_with none W code L S before content) fewer p _ q.could)
      go (spent f p i) r g (spent {k = j} h q l) = (j, g, spent-lower (job_with none W code L S before content) fewer p q)
      go (spent f p i) r g (refused h l) = absurd (one-ground (sym one-for-both ∙ f) h)

-- MARKED CELLS
module _ (start : ℕ → ℕ) (map : Option (List ℕ)) (W : List ℕ) (code L S : ℕ) (before content : List ℕ) (b : Octets content) where
  -- keep their three bits through a write, whatever its answer
  pub marked-bits : (c : ℕ) → c < cell_count one_bit L * S → marked_by map c ≡ true
      → triple (page_with map W code L S before content start) c ≡ triple before c
  unfolding triple
  marked-bits c h m = go (wrote_by start map W code L S before content b)
    where
      go : {after : List ℕ} {r : Answer}
          → Promised start (ground_with map W code L S before content) (job_with map W code L S before content) after r
          → triple after c ≡ triple before c
      go {after} (done e p) =
          let z : 3 * c + 0 ≡ 3 * c = omega arith in
          rw (rw z at (bit 0 (omega arith)), bit 1 (omega arith), bit 2 (omega arith))
        where
          whole : 3 * c + 2 < 8 * length before
          whole =
              let s = (weighted-in-order none (map_size map) W code L S (length before) (length content) e).page_is in
              let l : length before ≡ 6 * L * S = rw (one_bit-bytes L) at s in
              let k : c < 16 * L * S = rw (one_bit-cells L) at h in
              omega arith

          bit : (j : ℕ) → j < 3 → bit_of after (3 * c + j) ≡ bit_of before (3 * c + j)
          bit j l =
              ap (λ (x : List ℕ). bit_of x (3 * c + j)) p.raised
              ∙ raised_to-keeps (start_in start (cell_count one_bit L)) before (level after) c j l (omega (arith, whole))
              (omega (arith, p.could.marked_stay c h m))
      go (spent e p f) = rw f
      go (refused e f) = rw f

-- and through a list
pub list-marked-bits : (start : ℕ → ℕ) (map : Option (List ℕ)) (W : List ℕ) (code L S count : ℕ) (before content : List ℕ)
    → Octets content → (c : ℕ) → c < cell_count one_bit L * S → marked_by map c ≡ true
    → triple (list_with map W code L S count before content start).page c ≡ triple before c
list-marked-bits start map W code L S count before content b c h m =
    list-keeps start map W code L S count before content b (λ p. triple p c ≡ triple before c)
    (λ p one o e. marked-bits start map W code L S p one o c h m ∙ e) refl

-- WHAT THE PAGE READS AS
module _ (map : Option (List ℕ)) (W : List ℕ) (code L S : ℕ) (before content : List ℕ) (b : Octets content)
    (permitted : ground_with map W code L S before content ≡ none) where
  -- written again it costs nothing, and the page stays as it is, byte for byte, whatever is marked
  pub stays-free : Octets before → read_page (numbered code) L S before ≡ content
      → (answer_with map W code L S before content ≡ A.Done 0) × (page_with map W code L S before content start_of ≡ before)
  unfolding read_page
  stays-free o e = go _ refl (wrote map W code L S before content b)
    where
      J : Job
      J = job_with map W code L S before content

      could : Could J before
      could = stay-could J e

      go : (r : Answer) → answer_with map W code L S before content ≡ r
          → WroteWith map W code L S before content (page_with map W code L S before content start_of) r
          → (answer_with map W code L S before content ≡ A.Done 0) × (page_with map W code L S before content start_of ≡ before)
      go r g (done f p) =
          let I = job-in-order map W code L S before content b f in
          (g ∙ ap A.Done (free-stay J I could p).0, stay-page J I could p o)
      go r g (spent f p h) = absurd (p.no_page before could)
      go r g (refused f h) = absurd (one-ground permitted f)

-- a write is done with one cost
done-cost : {a b : ℕ} → A.Done a ≡ A.Done b → a ≡ b
done-cost e = cc

-- EVERY CELL MARKED: the page takes only what it reads as
module _ (map : Option (List ℕ)) (W : List ℕ) (code L S : ℕ) (before content : List ℕ) (b : Octets content)
    (permitted : ground_with map W code L S before content ≡ none)
    (marked : (c : ℕ) → c < cell_count one_bit L * S → marked_by map c ≡ true) where
  -- a page that could be reads as the page does
  only-read : {other : List ℕ} → Could (job_with map W code L S before content) other → read_page (numbered code) L S before ≡ content
  unfolding read_page
  only-read p = (all-marked (job_with map W code L S before content) (job-in-order map W code L S before content b permitted) marked p).0

  -- at no cost, and stays as it is, byte for byte
  pub all-marked-done : Octets before → {cost : ℕ} → answer_with map W code L S before content ≡ A.Done cost
      → (cost ≡ 0) × (read_page (numbered code) L S before ≡ content) × (page_with map W code L S before content start_of ≡ before)
  all-marked-done o {cost} e = go (rw e at (wrote map W code L S before content b))
    where
      go : WroteWith map W code L S before content (page_with map W code L S before content start_of) (A.Done cost)
          → (cost ≡ 0) × (read_page (numbered code) L S before ≡ content) × (page_with map W code L S before content start_of ≡ before)
      go (done f p) =
          let s = stays-free map W code L S before content b permitted o (only-read p.could) in
          (done-cost (sym e ∙ s.0), only-read p.could, s.1)

  -- for everything else it is spent
  pub all-marked-spent : (read_page (numbered code) L S before ≡ content → ⊥)
      → (k : ℕ) × (answer_with map W code L S before content ≡ A.Spent k)
  all-marked-spent n = done-not-spent (wrote map W code L S before content b) permitted (λ other p. n (only-read p))

-- AN ERASED PAGE. Where every level is 0, every sum is
zero-sum : (G : Generators) (t : ℕ) → data_bit one_bit G (λ c. 0) t ≡ 0
unfolding sum_bit ago first_bit second_bit
zero-sum G t =
    one_bit-data G (λ c. 0) t ∙ ap (λ (n : ℕ). n % 2) (sum_of-zero (suc G.memory) _ (λ i h. go _ _ (ltb t i)))
  where
    go : (x y : ℕ) (b : Bool) → x * cond b 0 0 + y * cond b 0 0 ≡ 0
    go x y true = omega arith
    go x y false = omega arith

-- zeros are bytes
zeros-octets : (n : ℕ) → Octets (replicate n 0)
zeros-octets n = record { below = λ q h. rw (zeros-at n q) (omega arith) }

-- so it reads as zeros
pub erased-reads : (G : Generators) (L S n : ℕ) → read_page G L S (replicate n 0) ≡ replicate (L * S) 0
unfolding read_page strip_levels
erased-reads G L S n =
    reads_of one_bit G L S (replicate n 0) (replicate (L * S) 0) (length-replicate {A = ℕ} (L * S) 0) (zeros-octets (L * S))
    (λ j h t l. ap (λ (v : ℕ → ℕ). data_bit one_bit G v t) (fun_ext (λ c. erased-level n _)) ∙ zero-sum G t ∙ sym (zeros-bit (L * S) _))

-- an erased page of the right length
abbrev pub erased_page : ℕ → ℕ → List ℕ
erased_page L S = replicate (byte_count one_bit L * S) 0

-- 'SO AN ERASED PAGE CAN BE SPENT: with every cell marked at level 0 it takes only zeros': what is done is zeros, zeros are done at no cost
-- and leave the page as it is, and for everything else the page is spent
pub all-marked-erased : (map : Option (List ℕ)) (W : List ℕ) (code L S : ℕ) (content : List ℕ) → Octets content
    → ground_with map W code L S (erased_page L S) content ≡ none
    → ((c : ℕ) → c < cell_count one_bit L * S → marked_by map c ≡ true)
    → ((cost : ℕ) → answer_with map W code L S (erased_page L S) content ≡ A.Done cost → content ≡ replicate (L * S) 0)
    × (content ≡ replicate (L * S) 0
    → (answer_with map W code L S (erased_page L S) content ≡ A.Done 0)
    × (page_with map W code L S (erased_page L S) content start_of ≡ erased_page L S))
    × ((content ≡ replicate (L * S) 0 → ⊥) → (k : ℕ) × (answer_with map W code L S (erased_page L S) content ≡ A.Spent k))
all-marked-erased map W code L S content b permitted marked = (
  λ cost e. sym (all-marked-done map W code L S (erased_page L S) content b permitted marked octets e).1 ∙ reads,
  λ e. stays-free map W code L S (erased_page L S) content b permitted octets (reads ∙ sym e),
  λ n. all-marked-spent map W code L S (erased_page L S) content b permitted marked (λ e. n (sym e ∙ reads)),
)
  where
    octets : Octets (erased_page L S)
    octets = zeros-octets (byte_count one_bit L * S)

    reads : read_page (numbered code) L S (erased_page L S) ≡ replicate (L * S) 0
    reads = erased-reads (numbered code) L S (byte_count one_bit L * S)
