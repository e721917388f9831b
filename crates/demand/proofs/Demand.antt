-- DEMAND 3, proved: where the computed write of a page has a solution, the page raised to its levels is the cheapest of ALL pages that read
-- as the data with no cell lowered and marked cells kept; where it has none, no page is, and the strip named is the lowest that takes no
-- pattern. For any layout, code, weights and marks, any L and S, every content, and wherever the raises of a cell start.
--   problem-solves    the write of a strip is its best
--   page-cell         what lies in a page is one of its cells
--   solution-raised   the page raised to a solution's levels has these levels
--   cheapest          a solution is the cheapest
--   spent-at          no solution: the page is spent, at the first strip that has none
use mathlib.Core.Path.{◌≡◌, refl, sym, ◌∙◌, ap, fun_ext}
use mathlib.Core.Bool.{Bool, true, false}
use mathlib.Core.List.{List, [], ◌∷◌}
use mathlib.Core.Option.{none, some}
use Prim.Native.Nat.{ℕ, zero, suc, ◌<◌, ◌≤◌, ◌+◌, ◌*◌}
use native.Mathlib.Omega.{arith}
use native.Mathlib.Nat.{mul_assoc}
use lib.Dec.{ltb}
use lib.ListN.{length, take, drop, get_or-eq_default}
use lib.Seq.{take_all}
use borrow.Author.Tests.{ltb-true, ltb-false}
use Rattle.cells.specs.Places.{list_of, sum_of, Each, no_more, and_each}
use Rattle.cells.specs.Levels.{level}
use Rattle.cells.specs.Raising.{start_of, start_in, raised_to}
use Rattle.cells.specs.Climbs.{climb, cost_of, weight_of}
use Rattle.cells.proofs.Places.{length-list_of, list_of-at, sum_of-same}
use Rattle.cells.proofs.Levels.{level-bound}
use Rattle.cells.proofs.Raising.{raised_to-length, raised_to-level, raised_to-same}
use Rattle.cells.proofs.Parts.{place_inside}
use Rattle.codes.specs.Layouts.{stage_count, byte_count}
use Rattle.codes.specs.Encoders.{encoder_of}
use Rattle.search.specs.Strip.{steps_of, Rewrite}
use Rattle.search.specs.Layouts.{meaning_of, data_bits, strip_cells}
use Rattle.search.specs.Best.{Solution, Best, Solves, Width, All, LexLower}
use Rattle.search.specs.Levels.{level_at}
use Rattle.search.proofs.Best.{the-best, none-valid, cost-least, levels-first}
use Rattle.search.proofs.Trellis.{all-solves, none_first}
use Rattle.search.proofs.Layouts.{strip-solves}
use Rattle.demand.specs.Jobs.{part, Job, width, page_cells, strip_job, InOrder}
use Rattle.demand.specs.Reading.{strip_levels}
use Rattle.demand.specs.Demand.{Could, LowerAtFirst, job_cost, Cheapest, Fits, SpentAt}
use Rattle.demand.specs.Computed.{strip_bytes, strip_write, page_write, spent_strip}
use Rattle.demand.proofs.Jobs.{part_length, part-octets}
use Rattle.demand.proofs.Reading.{cells_same, reads_of, reads_only}
use Rattle.demand.proofs.Strips.{Parts, all-parts, parts_all, ClosedAt, closed_at}
use Rattle.demand.proofs.Levels.{marks_of, strip_problem, climbs, PageLevels, problem-width, levels-all, all-levels}

-- the levels of a page as a list
levels_of : ℕ → List ℕ → List ℕ
levels_of n page = list_of n (level page)

level-there : (n : ℕ) (page : List ℕ) (c : ℕ) → c < n → level_at (levels_of n page) c ≡ level page c
unfolding levels_of level_at
level-there n page c h = list_of-at n (level page) c 0 h

length-levels : (n : ℕ) (page : List ℕ) → length (levels_of n page) ≡ n
unfolding levels_of
length-levels n page = length-list_of n (level page)

-- what a change costs, by the levels after it
cost_in-levels : (J : Job) (after : List ℕ) (v : ℕ → ℕ) → ((c : ℕ) → c < page_cells J → level after c ≡ v c)
    → job_cost J after ≡ sum_of (page_cells J) (climbs J v)
unfolding job_cost cost_of
cost_in-levels J after v e = sum_of-same (page_cells J) _ _ (λ c h. ap (climb (weight_of J.weights) (level J.page c)) (e c h))

-- nothing is asked of a strip's number
abbrev Any : ℕ → Type 0
Any k = Unit {0}

any : (l : List ℕ) → Each Any l
any [] = no_more
any (k ∷ l) = and_each tt (any l)

-- lower at the first place is lower at the first cell
lower-at-first : (n : ℕ) (after other : List ℕ) (y : List ℕ) → ((c : ℕ) → c < n → level_at y c ≡ level after c)
    → LexLower y (levels_of n other)
    → LowerAtFirst n after other
unfolding levels_of level_at
lower-at-first n after other y f r = record {
  cell = r.place;
  inside = inside;
  same = λ c h. sym (f c (omega (arith, inside))) ∙ r.agree c h ∙ list_of-at n (level other) c 0 (omega (arith, inside));
  lower = omega (arith, r.less, f r.place inside, list_of-at n (level other) r.place 0 inside);
}
  where
    inside : r.place < n
    inside = go (ltb r.place n) refl
      where
        go : (b : Bool) → ltb r.place n ≡ b → r.place < n
        go true q = ltb-true r.place n q
        go false q =
            let k : length (list_of n (level other)) ≤ r.place = omega (arith, ltb-false r.place n q, length-list_of n (level other)) in
            absurd (let z : ⊥ = omega (arith, r.less, get_or-eq_default (list_of n (level other)) 0 k) in z)

module _ (J : Job) (I : InOrder J) where
  -- each strip's write is its best
  pub problem-solves : (k : ℕ) → Solves (strip_problem J k) (strip_write J k)
  unfolding strip_problem strip_write
  problem-solves k =
      strip-solves J.layout J.bytes (strip_bytes J k) (marks_of J k) J.code I.sound J.weights (part J.bytes k J.content)

  -- so the strips' writes are the page's best
  solved : Solves (All (strip_problem J) (list_of J.strips (λ k. k))) (page_write J)
  unfolding page_write
  solved =
      all-solves (strip_write J) (strip_problem J) (λ k. width J) Any (λ k n. problem-solves k) (problem-width J I.sound I.whole)
      (any (list_of J.strips (λ k. k)))

  page-width : Width (page_cells J) (All (strip_problem J) (list_of J.strips (λ k. k)))
  page-width = record { width = λ c y a. (all-levels J I.sound I.whole c y a).0 }

  -- the cells of the page fill it
  page-bits : 3 * page_cells J ≡ 8 * length J.page
  page-bits =
      sym (mul_assoc 3 (width J) J.strips) ∙ ap (λ (x : ℕ). x * J.strips) I.whole.cells_fill ∙ mul_assoc 8 _ J.strips
      ∙ ap (λ (x : ℕ). 8 * x) (sym I.page_is)

  -- so each lies in it whole
  inside : (c : ℕ) → c < page_cells J → 3 * c + 2 < 8 * length J.page
  inside c h = omega (arith, page-bits)

  -- and what lies in it is one of them
  pub page-cell : (c : ℕ) → 3 * c < 8 * length J.page → c < page_cells J
  page-cell c h = omega (arith, page-bits)

  -- the levels of a page that could be are admitted, at what the change costs
  could-all : (other : List ℕ) → Could J other
      → All (strip_problem J) (list_of J.strips (λ k. k)) (job_cost J other) (levels_of (page_cells J) other)
  unfolding strip_levels
  could-all other p =
      rw (cost_in-levels J other (level_at (levels_of (page_cells J) other)) (λ c h. sym (level-there (page_cells J) other c h)))
      (levels-all J I.sound I.whole (levels_of (page_cells J) other) (length-levels (page_cells J) other) (record {
        up = λ c h. rw (level-there (page_cells J) other c h) (p.no_lower c h);
        high = λ c h. rw (level-there (page_cells J) other c h) (level-bound other c);
        marked_stays = λ c h m. level-there (page_cells J) other c h ∙ p.marked_stay c h m;
        reads = λ j h t l.
            cells_same J.layout J.code J.bytes I.whole _ _ t l
            (λ c m. level-there (page_cells J) other (width J * j + c) (place_inside (width J) j c m J.strips h))
            ∙ reads_only J.layout J.code J.bytes J.strips other J.content p.reads j h t l;
      }))

  -- what a solution's levels are
  solution-levels : (a : Solution) → page_write J ≡ some a
      → (length a.levels ≡ page_cells J) × PageLevels J (level_at a.levels)
      × (a.cost ≡ sum_of (page_cells J) (climbs J (level_at a.levels)))
  solution-levels a e = all-levels J I.sound I.whole a.cost a.levels (the-best (rw e at solved)).valid

  -- a page that could be has a solution for each of its strips
  no_page : page_write J ≡ none → (other : List ℕ) → Could J other → ⊥
  no_page e other p = none-valid (rw e at solved) _ _ (could-all other p)

  -- where there is no solution, the first strip that has none
  first-closed : page_write J ≡ none → ClosedAt (strip_problem J) J.strips (λ k. k) (spent_strip J)
  unfolding page_write spent_strip
  first-closed e =
      closed_at (strip_problem J) J.strips (λ k. k) _
      (none_first (strip_write J) (strip_problem J) (λ k. width J) Any (λ k n. problem-solves k) (problem-width J I.sound I.whole)
      (any (list_of J.strips (λ k. k))) e)

-- RAISED TO LEVELS, the raises of a cell starting where `start` says
module _ (start : ℕ → ℕ) (J : Job) (I : InOrder J) where
  -- the page raised to levels
  abbrev raised : List ℕ → List ℕ
  raised y = raised_to (start_in start (width J)) J.page (level_at y)

  -- levels that the page admits: the page raised to them has just these levels
  raised-level : (y : List ℕ) → PageLevels J (level_at y) → (c : ℕ) → c < page_cells J → level (raised y) c ≡ level_at y c
  raised-level y v c h = raised_to-level (start_in start (width J)) J.page (level_at y) c (inside J I c h) (v.up c h) (v.high c h)

  -- and could be
  levels-could : (y : List ℕ) → PageLevels J (level_at y) → Could J (raised y)
  unfolding strip_levels
  levels-could y v = record {
    size = raised_to-length _ J.page _;
    reads = reads_of J.layout J.code J.bytes J.strips (raised y) J.content I.data_is I.octets (λ j h t l.
        cells_same J.layout J.code J.bytes I.whole _ _ t l
        (λ c m. raised-level y v (width J * j + c) (place_inside (width J) j c m J.strips h))
        ∙ v.reads j h t l);
    no_lower = λ c h. rw (raised-level y v c h) (v.up c h);
    marked_stay = λ c h m. raised-level y v c h ∙ v.marked_stays c h m;
  }

  -- the page raised to a solution's levels has them
  pub solution-raised : (a : Solution) → page_write J ≡ some a → (c : ℕ) → c < page_cells J
      → level (raised a.levels) c ≡ level_at a.levels c
  solution-raised a e = raised-level a.levels (solution-levels J I a e).1

  -- AN ANSWER: the page raised to its levels is the cheapest
  pub cheapest : (a : Solution) → page_write J ≡ some a → Cheapest start J (raised a.levels) a.cost
  cheapest a e = record {
    could = levels-could a.levels v.1;
    raised = raised_to-same _ J.page (level_at a.levels) (level (raised a.levels))
        (λ c h. sym (raised-level a.levels v.1 c (page-cell J I c h)));
    paid = cost_in-levels J (raised a.levels) (level_at a.levels) (raised-level a.levels v.1) ∙ sym v.2;
    least = λ other p. cost-least best _ _ (could-all J I other p);
    among_equals = λ other p f c h n.
        lower-at-first (page_cells J) (raised a.levels) other a.levels (λ i k. sym (raised-level a.levels v.1 i k))
        (levels-first (page_cells J) (page-width J I) best _ _ (could-all J I other p) f
        (λ q. n (raised-level a.levels v.1 c h ∙ ap (λ (l : List ℕ). level_at l c) q ∙ level-there (page_cells J) other c h)));
  }
    where
      best : Best (All (strip_problem J) (list_of J.strips (λ k. k))) a
      best = the-best (rw e at (solved J I))

      v : (length a.levels ≡ page_cells J) × PageLevels J (level_at a.levels)
          × (a.cost ≡ sum_of (page_cells J) (climbs J (level_at a.levels)))
      v = solution-levels J I a e

-- A STRIP ALONE is a job of one strip
pub part-zero : (n : ℕ) (x : List ℕ) → length x ≡ n → part n 0 x ≡ x
unfolding part
part-zero n x e = let z : n * 0 ≡ 0 = omega arith in rw z (take_all n x (omega arith))

module _ (J : Job) (I : InOrder J) where
  module _ (k : ℕ) (h : k < J.strips) where
    -- it is in order
    alone : InOrder (strip_job J k)
    unfolding strip_job
    alone = record {
      sound = I.sound;
      whole = I.whole;
      page_is = part_length _ J.strips k J.page I.page_is h ∙ omega arith;
      data_is = part_length _ J.strips k J.content I.data_is h ∙ omega arith;
      octets = part-octets _ k J.content I.octets;
    }

    -- its one strip is strip k
    same-problem : strip_problem (strip_job J k) 0 ≡ strip_problem J k
    unfolding strip_problem strip_job strip_bytes
    same-problem =
        rw (
          part-zero (byte_count J.layout J.bytes) (part _ k J.page) (part_length _ J.strips k J.page I.page_is h),
          part-zero J.bytes (part _ k J.content) (part_length _ J.strips k J.content I.data_is h),
        )
        (ap (λ (m : ℕ → Bool). Rewrite (steps_of J.weights) (meaning_of J.layout) (encoder_of J.code)
        (data_bits J.layout (part J.bytes k J.content))
        (stage_count J.layout J.bytes) (strip_cells J.layout J.bytes (strip_bytes J k) m)) same-marks)
      where
        same-marks : (λ c. J.marks (width J * k + (width J * 0 + c))) ≡ marks_of J k
        same-marks = fun_ext λ c. ap J.marks (omega arith)

    -- a pattern that could be is a write of strip k
    pattern-write : (other : List ℕ) → Could (strip_job J k) other → ((d : ℕ) (y : List ℕ) → strip_problem J k d y → ⊥) → ⊥
    unfolding strip_job
    pattern-write other p closed =
        let q : Parts (strip_problem (strip_job J k)) (width J) 1 (λ j. j) _ _ =
        all-parts (strip_problem (strip_job J k)) (width J) (problem-width (strip_job J k) I.sound I.whole) 1
        (λ j. j) _ _ (could-all (strip_job J k) alone other p) in
        let e : 0 < 1 = omega arith in
        closed _ _ (rw same-problem at (q.valid 0 e))

    -- and a write of strip k gives a pattern that could be
    write-pattern : (d : ℕ) (y : List ℕ) → strip_problem J k d y → Fits J k
    unfolding strip_job
    write-pattern d y w = record {
      pattern = raised_to (start_in start_of (width J)) (part (byte_count J.layout J.bytes) k J.page) (level_at y);
      could = levels-could start_of (strip_job J k) alone y (all-levels (strip_job J k) I.sound I.whole _ y one).1;
    }
      where
        long : length y ≡ width J
        long = (problem-width J I.sound I.whole k).width d y w

        valid : (j : ℕ) → j < 1 → strip_problem (strip_job J k) j d (take (width J) (drop (width J * j) y))
        valid zero l = let z : width J * 0 ≡ 0 = omega arith in rw (same-problem, z, take_all (width J) y (omega (arith, long))) w
        valid (suc j) l = absurd (let z : ⊥ = omega arith in z)

        one : All (strip_problem (strip_job J k)) (list_of 1 (λ j. j)) (sum_of 1 (λ j. d)) y
        one = parts_all (strip_problem (strip_job J k)) (width J) 1 (λ j. j) (λ j. d) y (long ∙ omega arith) valid

  -- NO ANSWER: the page is spent, at the first strip that has none
  pub spent-at : page_write J ≡ none → SpentAt J (spent_strip J)
  spent-at e =
      let f : ClosedAt (strip_problem J) J.strips (λ k. k) (spent_strip J) = first-closed J I e in
      record {
        inside = f.inside;
        no_page = no_page J I e;
        no_pattern = λ other p. pattern-write (spent_strip J) f.inside other p f.unsolved;
        lowest = λ j h. write-pattern j (omega (arith, f.inside)) (f.open-cost j) (f.open-levels j) (f.open-before j h);
      }
