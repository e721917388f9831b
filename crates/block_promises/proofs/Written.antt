-- A PUT TO PAGE i: its two writes, the blocks that could be for it, what they cost, and the block with both written.
--   split-cost                what a block costs: its directory, its page i, and the pages before and behind
--   offer-both, put-offered   an offer is of both writes, and the least cost of all blocks that could be
--   after-long, directory-after, page-after, others-after   the parts of the block with both written
--   could-after, paid-after   it could be, and costs what both cost
--   lower-after               of those that cost the same it has the lower level at the first cell that differs
use mathlib.Core.Path.{◌≡◌, refl, sym, ◌∙◌, ap, ap₂, subst}
use mathlib.Core.Bool.{Bool, true, false, false≢true}
use mathlib.Core.List.{List}
use mathlib.Core.Logic.{⊎_elim}
use mathlib.Core.Option.{Option, none, some}
use Prim.Native.Nat.{ℕ, ◌<◌, ◌≤◌, ◌+◌, ◌-◌, ◌*◌, ◌/◌, ◌%◌}
use native.Mathlib.Omega.{arith, ne_cases}
use native.Mathlib.Nat.{div-add-mod}
use lib.Dec.{ltb}
use lib.ListN.{length}
use borrow.Author.Tests.{ltb-true, ltb-false}
use Rattle.cells.specs.Places.{sum_of}
use Rattle.cells.specs.Levels.{level}
use Rattle.cells.specs.Climbs.{house, weight_of, cost_of, climb}
use Rattle.cells.proofs.Places.{sum_of-same, sum_of-zero, sum_of-append}
use Rattle.cells.proofs.Levels.{level-bound}
use Rattle.cells.proofs.Climbs.{climb-stay}
use Rattle.cells.proofs.Parts.{within, part-place, place_inside}
use Rattle.codes.specs.Layouts.{cell_count, stage_count}
use Rattle.refusals.specs.Refusals.{page_bytes}
use Rattle.demand.specs.Jobs.{Job}
use Rattle.demand.specs.Reading.{read_page}
use Rattle.demand.specs.Demand.{Could, LowerAtFirst, job_cost, Cheapest}
use Rattle.demand.specs.Offers.{Offered}
use Rattle.demand.proofs.Offers.{one-cost, not_none}
use Rattle.page_promises.specs.Writes.{job_page}
use Rattle.page_promises.specs.Families.{job_offer}
use Rattle.page_promises.proofs.Families.{job-offered}
use Rattle.block_promises.specs.Block.{directory_of, page_in, page_cell_count, block_cells, with_part, directory_job, page_job, together}
use Rattle.block_promises.specs.Block.{put_offer, put_block, CouldPut, block_cost}
use Rattle.block_promises.proofs.Windows.{with_part-length, with_part-there, with_part-before, with_part-after, sum_zeros}
use Rattle.block_promises.proofs.Parts.{Fit, differs?, free-climb, level-directory, level-page, directory-length, page-length-in}
use Rattle.block_promises.proofs.Parts.{directory-in-order, page-in-order}

module _ (code L S P : ℕ) (block content : List ℕ) (F : Fit code L S P block content) (i : ℕ) (inside : i < P) where
  -- the two writes
  abbrev pub D : Job
  D = directory_job block i

  abbrev pub Q : Job
  Q = page_job code L S block content i

  -- A BLOCK THAT COULD BE has parts that could be
  could-directory : {other : List ℕ} → CouldPut code L S P block content i other
      → Could D (directory_of other)
  unfolding read_page cell_count stage_count
  could-directory {other} x = record {
    size = directory-length L S P other (x.size ∙ F.fits.block-is) ∙ sym (directory-length L S P block F.fits.block-is);
    reads = x.names;
    no_lower = λ c h. omega (arith, level-directory L S block c h, level-directory L S other c h, x.no_lower c (omega arith));
    marked_stay = λ c h m. absurd (false≢true m);
  }

  could-page : {other : List ℕ} → CouldPut code L S P block content i other → Could Q (page_in L S i other)
  unfolding read_page
  could-page {other} x = record {
    size = page-length-in L S P i other (x.size ∙ F.fits.block-is) inside
        ∙ sym (page-length-in L S P i block F.fits.block-is inside);
    reads = x.reads;
    no_lower = λ c h.
        let l = x.no_lower (16 + (page_cell_count L S * i + c)) (omega (arith, place_inside (page_cell_count L S) i c h P inside)) in
        omega (arith, level-page L S i block c h, level-page L S i other c h, l);
    marked_stay = λ c h m. absurd (false≢true m);
  }

  -- THE COST of a block: of its directory, of page i, and of the pages before and behind
  step : List ℕ → ℕ → ℕ
  step other c = climb (weight_of house) (level block c) (level other c)

  behind-cells : ℕ
  behind-cells = page_cell_count L S * P - (page_cell_count L S * i + page_cell_count L S)

  before-cost : List ℕ → ℕ
  before-cost other = sum_of (page_cell_count L S * i) (λ c. step other (16 + c))

  behind-cost : List ℕ → ℕ
  behind-cost other = sum_of behind-cells (λ c. step other (16 + (page_cell_count L S * i + (page_cell_count L S + c))))

  directory-cost : (other : List ℕ) → job_cost D (directory_of other) ≡ sum_of 16 (step other)
  unfolding job_cost cost_of step cell_count stage_count
  directory-cost other =
      sum_of-same 16 _ _ (λ c h. ap₂ (climb (weight_of house)) (level-directory L S block c h) (level-directory L S other c h))

  page-cost : (other : List ℕ) → job_cost Q (page_in L S i other)
      ≡ sum_of (page_cell_count L S) (λ c. step other (16 + (page_cell_count L S * i + c)))
  unfolding job_cost cost_of step
  page-cost other =
      sum_of-same (page_cell_count L S) _ _ (λ c h. ap₂ (climb (weight_of house)) (level-page L S i block c h) (level-page L S i other c h))

  split-cost : (other : List ℕ) → block_cost code L S P block content other
      ≡ job_cost D (directory_of other)
      + job_cost Q (page_in L S i other)
      + (before-cost other + behind-cost other)
  unfolding block_cost cost_of step before-cost behind-cost behind-cells
  split-cost other =
      let n : ℕ = page_cell_count L S in
      let e : block_cells L S P ≡ 16 + (n * i + (n + behind-cells)) = omega (arith, within n i P inside) in
      let b : sum_of (n * i + (n + behind-cells)) (λ c. step other (16 + c))
      ≡ before-cost other + sum_of (n + behind-cells) (λ c. step other (16 + (n * i + c))) =
      sum_of-append (n * i) (n + behind-cells) (λ c. step other (16 + c)) in
      let d : sum_of (n + behind-cells) (λ c. step other (16 + (n * i + c)))
      ≡ sum_of n (λ c. step other (16 + (n * i + c))) + behind-cost other =
      sum_of-append n behind-cells (λ c. step other (16 + (n * i + c))) in
      ap (λ (k : ℕ). sum_of k (step other)) e ∙ sum_of-append 16 (n * i + (n + behind-cells)) (step other)
      ∙ omega (arith, b, d, directory-cost other, page-cost other)

  -- so a block costs no less than its two parts
  parts-cost : (other : List ℕ) → job_cost D (directory_of other)
      + job_cost Q (page_in L S i other) ≤ block_cost code L S P block content other
  parts-cost other = omega (arith, split-cost other)

  -- an offer is two offers
  pub offer-both : {c : ℕ} → put_offer code L S P block content i ≡ some c
      → (d : ℕ) × (q : ℕ) × (job_offer D ≡ some d) × (job_offer Q ≡ some q) × (d + q ≡ c)
  unfolding put_offer
  offer-both {c} e = go (job_offer D) refl (job_offer Q) refl e
    where
      go : (x : Option ℕ) → job_offer D ≡ x → (y : Option ℕ) → job_offer Q ≡ y → together x y ≡ some c
          → (d : ℕ) × (q : ℕ) × (job_offer D ≡ some d) × (job_offer Q ≡ some q) × (d + q ≡ c)
      go none f y g e = absurd (not_none e refl)
      go (some d) f none g e = absurd (not_none e refl)
      go (some d) f (some q) g e = (d, q, f, g, one-cost refl e)

  -- each is the least cost of all that could be for its part
  directory-offered : Offered (Could D) (job_cost D) (job_offer D)
  directory-offered = job-offered D (directory-in-order code L S P block content F i inside)

  page-offered : Offered (Could Q) (job_cost Q) (job_offer Q)
  page-offered = job-offered Q (page-in-order code L S P block content F i inside)

  -- AN OFFER IS THE LEAST COST of all blocks that could be
  pub put-offered : Offered (CouldPut code L S P block content i) (block_cost code L S P block content) (put_offer code L S P block content i)
  unfolding put_offer
  put-offered = record {
    least = λ c e other x.
        let o = offer-both e in
        let l = directory-offered.least o.0 o.2 (directory_of other) (could-directory x) in
        let m = page-offered.least o.1 o.3 (page_in L S i other) (could-page x) in
        omega (arith, o.4, parts-cost other);
    nothing = λ e other x. go (job_offer D) refl (job_offer Q) refl e other x;
  }
    where
      go : (x : Option ℕ) → job_offer D ≡ x → (y : Option ℕ) → job_offer Q ≡ y → together x y ≡ none
          → (other : List ℕ) → CouldPut code L S P block content i other → ⊥
      go none f y g e other x = directory-offered.nothing f (directory_of other) (could-directory x)
      go (some d) f none g e other x = page-offered.nothing g (page_in L S i other) (could-page x)
      go (some d) f (some q) g e other x = not_none refl e

  -- a cell of the block is one of the directory, one of page i, or another
  by-cell : (T : ℕ → Type 0) → ((c : ℕ) → c < 16 → T c)
      → ((c : ℕ) → c < page_cell_count L S → T (16 + (page_cell_count L S * i + c)))
      → ((e : ℕ) → e < page_cell_count L S * P → (page_cell_count L S * i ≤ e → e < page_cell_count L S * i + page_cell_count L S → ⊥) → T (16 + e))
      → (c : ℕ) → c < block_cells L S P → T c
  by-cell T first page rest c h =
      go (ltb c 16) refl (ltb c (16 + page_cell_count L S * i)) refl (ltb c (16 + (page_cell_count L S * i + page_cell_count L S))) refl
    where
      there : (e : ℕ) → 16 + e ≡ c → T (16 + e) → T c
      there e q t = subst T q t

      go : (x : Bool) → ltb c 16 ≡ x → (y : Bool) → ltb c (16 + page_cell_count L S * i) ≡ y → (z : Bool)
          → ltb c (16 + (page_cell_count L S * i + page_cell_count L S)) ≡ z → T c
      go true p y q z r = first c (ltb-true c 16 p)
      go false p true q z r =
          let l = ltb-false c 16 p in
          let m : c < 16 + page_cell_count L S * i = ltb-true _ _ q in
          there (c - 16) (omega arith) (rest (c - 16) (omega arith) (λ a b. omega arith))
      go false p false q true r =
          let l : 16 + page_cell_count L S * i ≤ c = ltb-false _ _ q in
          let m : c < 16 + (page_cell_count L S * i + page_cell_count L S) = ltb-true _ _ r in
          there (page_cell_count L S * i + (c - (16 + page_cell_count L S * i))) (omega arith)
          (page (c - (16 + page_cell_count L S * i)) (omega arith))
      go false p false q false r =
          let l = ltb-false c 16 p in
          let m : 16 + (page_cell_count L S * i + page_cell_count L S) ≤ c = ltb-false _ _ r in
          there (c - 16) (omega arith) (rest (c - 16) (omega arith) (λ a b. omega arith))

  -- BOTH WRITTEN
  module _ (start : ℕ → ℕ) (d q : ℕ) (cd : Cheapest start D (job_page none D start) d) (cq : Cheapest start Q (job_page none Q start) q) where
    abbrev after : List ℕ
    after = put_block code L S P block content i start

    abbrev paged : List ℕ
    paged = with_part (6 + page_bytes L S * i) (job_page none Q start) block

    directory-long : length (job_page none D start) ≡ 6
    directory-long = cd.could.size ∙ directory-length L S P block F.fits.block-is

    page_long : length (job_page none Q start) ≡ page_bytes L S
    page_long = cq.could.size ∙ page-length-in L S P i block F.fits.block-is inside

    page-fits : 6 + page_bytes L S * i + length (job_page none Q start) ≤ length block
    page-fits = omega (arith, page_long, F.fits.block-is, within (page_bytes L S) i P inside)

    paged-long : length paged ≡ length block
    paged-long = with_part-length (6 + page_bytes L S * i) (job_page none Q start) block page-fits

    directory-fits : 0 + length (job_page none D start) ≤ length paged
    directory-fits = omega (arith, directory-long, paged-long, F.fits.block-is)

    pub after-long : length after ≡ length block
    unfolding put_block
    after-long = with_part-length 0 (job_page none D start) paged directory-fits ∙ paged-long

    pub directory-after : directory_of after ≡ job_page none D start
    unfolding put_block
    directory-after = with_part-there 0 (job_page none D start) paged directory-fits 6 directory-long

    -- a page is that of the block with the page alone stored
    behind-directory : (j : ℕ) → page_in L S j after ≡ page_in L S j paged
    unfolding put_block
    behind-directory j =
        with_part-after 0 (job_page none D start) paged directory-fits (6 + page_bytes L S * j) (page_bytes L S) (omega (arith, directory-long))

    pub page-after : page_in L S i after ≡ job_page none Q start
    page-after =
        behind-directory i ∙ with_part-there (6 + page_bytes L S * i) (job_page none Q start) block page-fits (page_bytes L S) page_long

    -- OTHER PAGES KEEP EVERY BYTE
    pub others-after : (j : ℕ) → (j ≡ i → ⊥) → page_in L S j after ≡ page_in L S j block
    others-after j n =
        behind-directory j
        ∙ ne_cases j i (page_in L S j paged ≡ page_in L S j block) n
        (λ h. with_part-before (6 + page_bytes L S * i) (job_page none Q start) block page-fits (6 + page_bytes L S * j) (page_bytes L S)
        (omega (arith, within (page_bytes L S) j i h)))
        (λ h. with_part-after (6 + page_bytes L S * i) (job_page none Q start) block page-fits (6 + page_bytes L S * j) (page_bytes L S)
        (omega (arith, page_long, within (page_bytes L S) i j h)))

    -- CELLS. Those of page j, which is not page i, are as they were
    cell-kept : (j : ℕ) → (j ≡ i → ⊥) → (c : ℕ) → c < page_cell_count L S
        → level after (16 + (page_cell_count L S * j + c)) ≡ level block (16 + (page_cell_count L S * j + c))
    cell-kept j n c h =
        sym (level-page L S j after c h) ∙ ap (λ (x : List ℕ). level x c) (others-after j n) ∙ level-page L S j block c h

    -- so are all cells outside page i
    outside_kept : (e : ℕ) → e < page_cell_count L S * P → (page_cell_count L S * i ≤ e → e < page_cell_count L S * i + page_cell_count L S → ⊥)
        → level after (16 + e) ≡ level block (16 + e)
    outside_kept e h n =
        subst (λ z. level after (16 + z) ≡ level block (16 + z)) (div-add-mod e (page_cell_count L S))
        (cell-kept (e / page_cell_count L S) (λ s. n (omega (arith, here s)) (omega (arith, here s, place)))
        (e % page_cell_count L S) place)
      where
        place : e % page_cell_count L S < page_cell_count L S
        place = part-place (page_cell_count L S) P e h

        here : e / page_cell_count L S ≡ i → page_cell_count L S * i + e % page_cell_count L S ≡ e
        here s = ap (λ (j : ℕ). page_cell_count L S * j + e % page_cell_count L S) (sym s) ∙ div-add-mod e (page_cell_count L S)

    -- the cells of the directory and of page i are those of the two writes
    directory-cell : (c : ℕ) → c < 16 → level (job_page none D start) c ≡ level after c
    directory-cell c h = ap (λ (x : List ℕ). level x c) (sym directory-after) ∙ level-directory L S after c h

    page-cell : (c : ℕ) → c < page_cell_count L S → level (job_page none Q start) c ≡ level after (16 + (page_cell_count L S * i + c))
    page-cell c h = ap (λ (x : List ℕ). level x c) (sym page-after) ∙ level-page L S i after c h

    -- THE BLOCK AFTER COULD BE
    pub could-after : CouldPut code L S P block content i after
    unfolding read_page cell_count stage_count
    could-after = record {
      size = after-long;
      names = rw directory-after cd.could.reads;
      reads = rw page-after cq.could.reads;
      no_lower = by-cell (λ c. level block c ≤ level after c)
          (λ c h. omega (arith, level-directory L S block c h, directory-cell c h, cd.could.no_lower c h))
          (λ c h. omega (arith, level-page L S i block c h, page-cell c h, cq.could.no_lower c h))
          (λ e h n. omega (arith, outside_kept e h n));
    }

    -- AT THE COST OF BOTH
    pub paid-after : block_cost code L S P block content after ≡ d + q
    unfolding before-cost behind-cost behind-cells step
    paid-after =
        omega (arith, split-cost after, cd.paid, cq.paid, ap (job_cost D) directory-after, ap (job_cost Q) page-after, no-before, no-behind)
      where
        stays : (e : ℕ) → e < page_cell_count L S * P → (page_cell_count L S * i ≤ e → e < page_cell_count L S * i + page_cell_count L S → ⊥)
            → step after (16 + e) ≡ 0
        stays e h n = ap (climb (weight_of house) (level block (16 + e))) (outside_kept e h n) ∙ climb-stay (weight_of house) _

        no-before : before-cost after ≡ 0
        no-before = sum_of-zero _ _ (λ c h. stays c (omega (arith, within (page_cell_count L S) i P inside)) (λ a b. omega arith))

        no-behind : behind-cost after ≡ 0
        no-behind = sum_of-zero _ _ (λ c h. stays (page_cell_count L S * i + (page_cell_count L S + c)) (omega arith) (λ a b. omega arith))

    -- A BLOCK AS CHEAP
    module _ (other : List ℕ) (x : CouldPut code L S P block content i other) (e : block_cost code L S P block content other ≡ d + q) where
      same-costs : (job_cost D (directory_of other) ≡ d) × (job_cost Q (page_in L S i other) ≡ q)
      same-costs =
          let l = cd.least (directory_of other) (could-directory x) in
          let m = cq.least (page_in L S i other) (could-page x) in
          (omega (arith, e, parts-cost other), omega (arith, e, parts-cost other))

      -- pays nothing elsewhere
      free-before : before-cost other ≡ 0
      free-before = omega (arith, e, split-cost other, same-costs.0, same-costs.1)

      free-behind : behind-cost other ≡ 0
      free-behind = omega (arith, e, split-cost other, same-costs.0, same-costs.1)

      -- so it raises nothing there
      other-kept : (f : ℕ) → f < page_cell_count L S * P → (page_cell_count L S * i ≤ f → f < page_cell_count L S * i + page_cell_count L S → ⊥)
          → level block (16 + f) ≡ level other (16 + f)
      unfolding before-cost behind-cost behind-cells step
      other-kept f h n =
          free-climb _ _ (x.no_lower (16 + f) (omega arith)) (level-bound other (16 + f)) (go (ltb f (page_cell_count L S * i)) refl)
        where
          not-in-page : page_cell_count L S * i ≤ f → page_cell_count L S * i + page_cell_count L S ≤ f
          not-in-page l = past (ltb f (page_cell_count L S * i + page_cell_count L S)) refl
            where
              past : (b : Bool) → ltb f (page_cell_count L S * i + page_cell_count L S) ≡ b → page_cell_count L S * i + page_cell_count L S ≤ f
              past true t = absurd (n l (ltb-true _ _ t))
              past false t = ltb-false _ _ t

          go : (b : Bool) → ltb f (page_cell_count L S * i) ≡ b → step other (16 + f) ≡ 0
          go true t = sum_zeros _ _ free-before f (ltb-true _ _ t)
          go false t =
              let l : page_cell_count L S * i ≤ f = ltb-false _ _ t in
              let m : page_cell_count L S * i + page_cell_count L S ≤ f = not-in-page l in
              let c : ℕ = f - (page_cell_count L S * i + page_cell_count L S) in
              let s : page_cell_count L S * i + (page_cell_count L S + c) ≡ f = omega arith in
              subst (λ z. step other (16 + z) ≡ 0) s (sum_zeros _ _ free-behind c (omega arith))

      -- both are alike there
      alike : (f : ℕ) → f < page_cell_count L S * P → (page_cell_count L S * i ≤ f → f < page_cell_count L S * i + page_cell_count L S → ⊥)
          → level after (16 + f) ≡ level other (16 + f)
      alike f h n = outside_kept f h n ∙ other-kept f h n

      -- lower in the directory
      in-directory : LowerAtFirst 16 (job_page none D start) (directory_of other) → LowerAtFirst (block_cells L S P) after other
      in-directory r = record {
        cell = r.cell;
        inside = omega (arith, r.inside);
        same = λ c h.
            let l : c < 16 = omega (arith, r.inside) in
            sym (directory-cell c l) ∙ r.same c h ∙ level-directory L S other c l;
        lower = omega (arith, r.lower, directory-cell r.cell r.inside, level-directory L S other r.cell r.inside);
      }

      -- lower in the page, where the directories are alike
      in-page : ((c : ℕ) → c < 16 → level (job_page none D start) c ≡ level (directory_of other) c)
          → LowerAtFirst (page_cell_count L S) (job_page none Q start) (page_in L S i other)
          → LowerAtFirst (block_cells L S P) after other
      in-page s r = record {
        cell = 16 + (page_cell_count L S * i + r.cell);
        inside = omega (arith, place_inside (page_cell_count L S) i r.cell r.inside P inside);
        same = λ c h. by-cell (λ k. k < 16 + (page_cell_count L S * i + r.cell) → level after k ≡ level other k)
            (λ k l m. sym (directory-cell k l) ∙ s k l ∙ level-directory L S other k l)
            (λ k l m. sym (page-cell k l) ∙ r.same k (omega arith) ∙ level-page L S i other k l)
            (λ f l n m. alike f l n)
            c (omega (arith, place_inside (page_cell_count L S) i r.cell r.inside P inside)) h;
        lower = omega (arith, r.lower, page-cell r.cell r.inside, level-page L S i other r.cell r.inside);
      }

      -- LOWER AT THE FIRST CELL whose levels differ
      pub lower-after : (c : ℕ) → c < block_cells L S P → (level after c ≡ level other c → ⊥) → LowerAtFirst (block_cells L S P) after other
      unfolding cell_count stage_count
      lower-after c h n =
          ⊎_elim
          (λ w. in-directory (cd.among_equals (directory_of other) (could-directory x) same-costs.0 w.0 w.1 w.2))
          (λ s. by-cell (λ k. (level after k ≡ level other k → ⊥) → LowerAtFirst (block_cells L S P) after other)
          (λ k l m. absurd (m (sym (directory-cell k l) ∙ s k l ∙ level-directory L S other k l)))
          (λ k l m. in-page s (cq.among_equals (page_in L S i other) (could-page x) same-costs.1 k l
          (λ z. m (sym (page-cell k l) ∙ z ∙ level-page L S i other k l))))
          (λ f l o m. absurd (m (alike f l o)))
          c h n)
          (differs? 16 (level (job_page none D start)) (level (directory_of other)))
