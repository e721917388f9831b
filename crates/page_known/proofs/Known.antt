-- THE TABLE HOLDS: one test that the checker computes over all its rows, through tables of states, and the law that turns the test into
-- what each row says.
--   answer-tabled, page-tabled   the evaluated definitions are those of the calls
--   passes                       the test of a row
--   cases-hold, runs-hold        THE THEOREM: of the table, and of each run
use mathlib.Core.Path.{◌≡◌, refl, sym, ◌∙◌, ap, subst₂, fun_ext}
use mathlib.Core.Bool.{Bool, true, false, ◌&&◌, false≢true}
use mathlib.Core.List.{List, [], ◌∷◌}
use mathlib.Core.Option.{Option, none, some}
use Prim.Native.Nat.{ℕ, ◌*◌, ◌-◌, ◌<◌, ◌≤◌}
use native.Mathlib.Omega.{arith}
use lib.Dec.{eqb}
use lib.ListN.{length, get_or}
use borrow.Author.Tests.{eqb-true}
use Rattle.cells.specs.Places.{list_of, sum_of, from_bits, Each, no_more, and_each, same_list}
use Rattle.cells.proofs.Places.{and_both, same_list-eq, list_of-at}
use Rattle.cells.specs.Bytes.{bit_of, bytes_of}
use Rattle.cells.specs.Levels.{level}
use Rattle.cells.specs.Raising.{start_of, start_in, zero_from, raise, raised_times, triple, raised_to}
use Rattle.cells.specs.Climbs.{climb, cost_of, weight_of}
use Rattle.codes.specs.Generators.{digit}
use Rattle.codes.specs.Layouts.{one_bit, stage_count, cell_count, byte_count}
use Rattle.codes.specs.Reading.{ago, sum_bit, code_bit, data_bit}
use Rattle.codes.specs.Sequences.{odd}
use Rattle.codes.specs.Registers.{dot, push, register, quotient}
use Rattle.codes.specs.Encoders.{encoder_of}
use Rattle.search.specs.Best.{Solution}
use Rattle.search.specs.Strip.{Dear, steps_of, cells_of}
use Rattle.search.specs.Trellis.{before, lexltb, beats, better, joined, all, first-none}
use Rattle.search.specs.Search.{labels, sums, wanted, branch, next, stages}
use Rattle.search.specs.Parity.{keep-or-raise, parity-choice}
use Rattle.search.specs.Levels.{level_at}
use Rattle.search.specs.Layouts.{unmarked, data_bits, strip_cells}
use Rattle.search.specs.Table.{grow, look, step, table, write-table}
use Rattle.search.proofs.Table.{write-by-table}
use Rattle.search.proofs.Layouts.{one_bit-write}
use Rattle.demand.specs.Jobs.{part}
use Rattle.demand.specs.Reading.{strip_levels, read_by, read_page}
use Rattle.demand.specs.Demand.{job_cost}
use Rattle.demand.specs.Computed.{strip_bytes, strip_write, page_write, spent_strip}
use Rattle.refusals.specs.Refusals.{one_to_64, is_code, code_ground, bytes_ground, strips_ground, limits_ground, sizes_ground, page_ground}
use Rattle.refusals.specs.Refusals.{datas_ground, lengths_ground, free_step, weights_ground, list_ground, write_ground, numbered}
use Rattle.page_promises.specs.Writes.{call_answer, call_page, job_answer, job_page, job_of, answer_with, page_with, answer_of, page_of}
use Rattle.page_known.specs.Known.{Case, Expected, reads, done, also, spent, Expects, Says, cases, runs}
use Rattle.refusals.specs.declared.Refusal.{Refusal}
use Rattle.page_answers.specs.declared.Answer.{Answer}
use Rattle.page_answers.specs.declared.Answer.TheVariants as A
use Rattle.page_promises.proofs.Promise.{numbered-sound, dear-by}

module _ (W : List ℕ) (code L S : ℕ) (page content : List ℕ) where
  -- the writes of the strips by tables of states
  unfoldable pub strip_tabled : ℕ → Option Solution
  strip_tabled k =
      write-table (encoder_of (numbered code)) (data_bits one_bit (part L k content)) (parity-choice (steps_of W)) 2 (stage_count one_bit L)
      (strip_cells one_bit L (part (byte_count one_bit L) k page) unmarked)

  -- they are the strips' writes, where no step is free
  strip-tabled : Dear (steps_of W) → strip_write (job_of W code L S page content) ≡ strip_tabled
  unfolding strip_write strip_bytes strip_tabled encoder_of
  strip-tabled D = fun_ext λ k.
      sym (write-by-table (encoder_of (numbered code)) (data_bits one_bit (part L k content)) (parity-choice (steps_of W)) 2
      (stage_count one_bit L) _
      ∙ one_bit-write (numbered code).memory (numbered code) (numbered-sound code) (omega arith) W D L
      (part (byte_count one_bit L) k page) unmarked (part L k content))

  -- a call of write by the strips' writes, with this ground
  abbrev answer_from : (ℕ → Option Solution) → Option Refusal → Answer
  answer_from strips g = call_answer g (all strips (list_of S (λ k. k))) (first-none strips (list_of S (λ k. k)))

  abbrev page_from : (ℕ → Option Solution) → Option Refusal → List ℕ
  page_from strips g =
      call_page g (all strips (list_of S (λ k. k))) (λ a. raised_to (start_in start_of (cell_count one_bit L)) page (level_at a.levels)) page

  -- evaluated
  unfoldable pub answer_tabled : Answer
  answer_tabled = answer_from strip_tabled (write_ground W code L S (length page) (length content))

  unfoldable pub page_tabled : List ℕ
  page_tabled = page_from strip_tabled (write_ground W code L S (length page) (length content))

  -- where there is a ground the strips do not matter
  by-ground : {A : Type 0} (f : (ℕ → Option Solution) → Option Refusal → A)
      → ((r : Refusal) (p q : ℕ → Option Solution) → f p (some r) ≡ f q (some r))
      → f (strip_write (job_of W code L S page content)) (write_ground W code L S (length page) (length content))
      ≡ f strip_tabled (write_ground W code L S (length page) (length content))
  by-ground f refused = go (write_ground W code L S (length page) (length content)) refl
    where
      go : (g : Option Refusal) → write_ground W code L S (length page) (length content) ≡ g
          → f (strip_write (job_of W code L S page content)) g ≡ f strip_tabled g
      go none e =
          ap (λ (strips : ℕ → Option Solution). f strips none)
          (strip-tabled (dear-by none none W code L S (length page) (length content) e))
      go (some r) e = refused r _ _

  -- THE EVALUATED DEFINITION IS THE ONE OF DEMAND 3: the answer
  pub answer-tabled : answer_of W code L S page content ≡ answer_tabled
  unfolding answer_with job_answer answer_tabled page_write spent_strip
  answer-tabled = by-ground answer_from (λ r p q. refl)

  -- and the page
  pub page-tabled : page_of W code L S page content ≡ page_tabled
  unfolding page_with job_page page_tabled page_write
  page-tabled = by-ground page_from (λ r p q. refl)

-- TESTS. Whether an answer is done with this cost, or spent with this strip
is_done : Answer → ℕ → Bool
is_done (A.Done c) cost = eqb c cost
is_done (A.Spent k) cost = false
is_done (A.Refused r) cost = false

is_spent : Answer → ℕ → Bool
is_spent (A.Done c) k = false
is_spent (A.Spent j) k = eqb j k
is_spent (A.Refused r) k = false

is-done : (a : Answer) (cost : ℕ) → is_done a cost ≡ true → a ≡ A.Done cost
unfolding is_done
is-done (A.Done c) cost e = ap A.Done (eqb-true c cost e)
is-done (A.Spent k) cost e = absurd (false≢true e)
is-done (A.Refused r) cost e = absurd (false≢true e)

is-spent : (a : Answer) (k : ℕ) → is_spent a k ≡ true → a ≡ A.Spent k
unfolding is_spent
is-spent (A.Done c) k e = absurd (false≢true e)
is-spent (A.Spent j) k e = ap A.Spent (eqb-true j k e)
is-spent (A.Refused r) k e = absurd (false≢true e)

-- THE TEST of a row
passes : Case → Expected → Bool
passes c reads = same_list (read_page (numbered c.code) c.L c.S c.page) c.content
passes c (done cost after) =
    is_done (answer_tabled c.weights c.code c.L c.S c.page c.content) cost && same_list
    (page_tabled c.weights c.code c.L c.S c.page c.content) after
passes c (also cost other) =
    let n = cell_count one_bit c.L * c.S in
    eqb (length other) (length c.page) && (same_list (read_page (numbered c.code) c.L c.S other) c.content &&
    (same_list (list_of n (λ i. level c.page i - level other i)) (list_of n (λ i. 0)) &&
    eqb (cost_of (weight_of c.weights) n c.page other) cost))
passes c (spent k) =
    is_spent (answer_tabled c.weights c.code c.L c.S c.page c.content) k && same_list
    (page_tabled c.weights c.code c.L c.S c.page c.content) c.page

-- no level is lower where none falls
none-lower : (n : ℕ) (a b : ℕ → ℕ) → same_list (list_of n (λ i. a i - b i)) (list_of n (λ i. 0)) ≡ true → (i : ℕ) → i < n → a i ≤ b i
none-lower n a b e i h =
    let f = ap (λ (l : List ℕ). get_or l i 0) (same_list-eq _ _ e) in
    omega (arith, sym (list_of-at n (λ i. a i - b i) i 0 h) ∙ f ∙ list_of-at n (λ i. 0) i 0 h)

-- a row that passes says what it says
says : (c : Case) (x : Expected) → passes c x ≡ true → Expects answer_tabled page_tabled c x
unfolding passes read_page job_cost
says c reads e = same_list-eq _ _ e
says c (done cost after) e = let p = and_both _ _ e in (is-done _ cost p.0, same_list-eq _ _ p.1)
says c (also cost other) e =
    let n = cell_count one_bit c.L * c.S in
    let p = and_both _ _ e in
    let q = and_both _ _ p.1 in
    let r = and_both _ _ q.1 in (
      record {
        size = eqb-true _ _ p.0;
        reads = same_list-eq _ _ q.0;
        no_lower = none-lower n (level c.page) (level other) r.0;
        marked_stay = λ i h m. absurd (false≢true m);
      },
      eqb-true _ cost r.1,
    )
says c (spent k) e = let p = and_both _ _ e in (is-spent _ k p.0, same_list-eq _ _ p.1)

-- of all rows
all_pass : List Case → Bool
all_pass [] = true
all_pass (c ∷ cs) = passes c c.expected && all_pass cs

all_say : (cs : List Case) → all_pass cs ≡ true → Each (Says answer_tabled page_tabled) cs
unfolding all_pass
all_say [] e = no_more
all_say (c ∷ cs) e = let p = and_both _ _ e in and_each (says c c.expected p.0) (all_say cs p.1)

-- THE TABLE PASSES, and so does each run, computed
runs_pass : List (List Case) → Bool
runs_pass [] = true
runs_pass (run ∷ more) = all_pass run && runs_pass more

table-passes : (all_pass cases && runs_pass runs) ≡ true
unfolding all_pass runs_pass passes is_done is_spent same_list answer_tabled page_tabled strip_tabled write-table table step look grow stages labels
    quotient register push dot branch next wanted sums joined better beats before lexltb parity-choice keep-or-raise odd weight_of
    cells_of encoder_of digit list_of bit_of level data_bits strip_cells stage_count cell_count byte_count part all first-none numbered list_ground
    lengths_ground
    weights_ground free_step is_code code_ground limits_ground sizes_ground bytes_ground strips_ground page_ground datas_ground one_to_64
    start_in start_of raised_to bytes_of
    from_bits raised_times raise zero_from triple level_at read_page read_by strip_levels data_bit sum_bit code_bit sum_of ago cost_of climb
table-passes = refl

-- of the answer and the page of a write
all_hold : (cs : List Case) → all_pass cs ≡ true → Each (Says answer_of page_of) cs
all_hold cs e =
    subst₂ (λ (a : List ℕ → ℕ → ℕ → ℕ → List ℕ → List ℕ → Answer) (p : List ℕ → ℕ → ℕ → ℕ → List ℕ → List ℕ → List ℕ). Each (Says a p) cs)
    (sym answers) (sym pages) (all_say cs e)
  where
    answers : answer_of ≡ answer_tabled
    answers =
        fun_ext λ W. fun_ext λ code. fun_ext λ L. fun_ext λ S. fun_ext λ page. fun_ext λ content. answer-tabled W code L S page content

    pages : page_of ≡ page_tabled
    pages = fun_ext λ W. fun_ext λ code. fun_ext λ L. fun_ext λ S. fun_ext λ page. fun_ext λ content. page-tabled W code L S page content

-- THE THEOREM: the table holds
pub cases-hold : Each (Says answer_of page_of) cases
cases-hold = all_hold cases (and_both (all_pass cases) (runs_pass runs) table-passes).0

-- and so does each run
pub runs-hold : Each (Each (Says answer_of page_of)) runs
unfolding runs_pass
runs-hold = go runs (and_both (all_pass cases) (runs_pass runs) table-passes).1
  where
    go : (rs : List (List Case)) → runs_pass rs ≡ true → Each (Each (Says answer_of page_of)) rs
    go [] e = no_more
    go (run ∷ more) e = let p = and_both _ _ e in and_each (all_hold run p.0) (go more p.1)
