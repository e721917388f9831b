-- A CALL, as the program makes it: it is judged, and what is in order goes to the loops.
--   octets, weighed         the data are bytes, and so are the three weights
--   lent-map                the map that is lent marks the cells of the call's map
--   in-order, list-in-order a call that is judged in order has no ground of a refusal
--   answered, listed        then it answers as its strips and datas do, and leaves that page
--   turned-away, list-turned-away   any other answers as it was judged, and changes nothing
use mathlib.Core.Path.{◌≡◌, sym, ◌∙◌}
use mathlib.Core.Bool.{Bool}
use mathlib.Core.List.{List, []}
use mathlib.Core.Option.{Option, none}
use Prim.Native.Nat.{ℕ}
use native.Mathlib.Omega.{arith}
use lib.ListN.{length, get_or}
use mir.Syntax.{w8}
use mir.Val.{Fits}
use Rattle.cells.specs.Bytes.{Octets}
use Rattle.cells.specs.Climbs.{Weights}
use Rattle.cells.specs.Marks.{marks_in}
use Rattle.cells.specs.Raising.{start_of}
use Rattle.cells.proofs.Marks.{no-map}
use Rattle.codes.specs.Generators.{Generators}
use Rattle.refusals.specs.Refusals.{completion_of, numbered}
use Rattle.refusals.specs.declared.Refusal.{Refusal}
use Rattle.refusals.proofs.Refusals.{done_none, refused-some}
use Rattle.std.specs.Prelude.{Result, Ok, Err, ⊤, unwrap_or}
use Rattle.std.specs.Borrow.{Bor}
use Rattle.std.specs.declared.option.Option as Program
use Rattle.std.specs.declared.option.Option.TheVariants as Given
use Rattle.page_answers.specs.declared.Answer.TheVariants as A
use Rattle.page_answers.specs.declared.ListAnswer.{ListAnswer}
use Rattle.page_promises.specs.Writes.{one_bit_job, job_answer, job_page, marked_by, ground_with, answer_with, page_with}
use Rattle.page_promises.specs.Lists.{ground_of, refused_list, job_course, list_answer, list_page}
use Rattle.page_promises.proofs.Promise.{in-order-job, refused-call}
use Rattle.page_promises.proofs.Lists.{in-order-list, refused-list}
use Rattle.page.specs.Maps.{map_of}

-- the data are bytes
pub octets : {content : List ℕ} → ((i : ℕ) → Fits w8 (get_or content i 0)) → Octets content
octets f = record { below = λ q h. let z = (f q).fits in omega arith }

-- and so are the three weights
pub weighed : {W : List ℕ} → length W ≡ 3 → ((i : ℕ) → Fits w8 (get_or W i 0)) → Weights W
weighed e f = record { three = e; bytes = λ i. let z = (f i).fits in omega arith }

-- the map that is lent marks the cells of the call's map, as an empty one marks none
pub lent-map : (map : Program.Option (Bor (List ℕ))) (empty lent : Bor (List ℕ)) → lent ≡ unwrap_or map empty → empty.now ≡ []
    → marks_in lent.now ≡ marked_by (map_of map)
lent-map Given.None empty lent e n = rw (e, n) no-map
lent-map (Given.Some map) empty lent e n = rw e

-- A CALL of one data
module _ (map : Option (List ℕ)) (W : List ℕ) (code L S : ℕ) (before content : List ℕ) {judged : Result ⊤ Refusal}
    (e : judged ≡ completion_of (ground_with map W code L S before content)) where
  -- that is judged in order has no ground of a refusal
  pub in-order : judged ≡ Ok tt → ground_with map W code L S before content ≡ none
  in-order f = done_none _ (sym e ∙ f)

  -- then it answers as its strips do, and leaves that page
  pub answered : judged ≡ Ok tt → {G : Generators} {marks : ℕ → Bool} → G ≡ numbered code → marks ≡ marked_by map
      → (job_answer none (one_bit_job marks G W L S before content) ≡ answer_with map W code L S before content)
      × (job_page none (one_bit_job marks G W L S before content) start_of ≡ page_with map W code L S before content start_of)
  answered f g m = in-order-job start_of map W code L S before content (in-order f) g m

  -- any other answers as it was judged, and changes nothing
  pub turned-away : {r : Refusal} → judged ≡ Err r
      → (A.Refused r ≡ answer_with map W code L S before content) × (before ≡ page_with map W code L S before content start_of)
  turned-away f = refused-call start_of map W code L S before content (refused-some _ (sym e ∙ f))

-- A CALL of a list of datas
module _ (map : Option (List ℕ)) (W : List ℕ) (code L S count : ℕ) (before content : List ℕ) {judged : Result ⊤ Refusal}
    (e : judged ≡ completion_of (ground_of map W code L S count before content)) where
  -- that is judged in order has no ground of a refusal
  pub list-in-order : judged ≡ Ok tt → ground_of map W code L S count before content ≡ none
  list-in-order f = done_none _ (sym e ∙ f)

  -- then it answers as its datas do, and leaves that page
  pub listed : judged ≡ Ok tt → {G : Generators} {marks : ℕ → Bool} → G ≡ numbered code → marks ≡ marked_by map
      → {r : ListAnswer} → r ≡ (job_course marks G W L S count before content).answer
      → {after : List ℕ} → after ≡ (job_course marks G W L S count before content).page
      → (r ≡ list_answer map W code L S count before content) × (after ≡ list_page map W code L S count before content)
  listed f g m h k = in-order-list map W code L S count before content (list-in-order f) g m h k

  -- any other answers as it was judged, and changes nothing
  pub list-turned-away : {r : Refusal} → judged ≡ Err r
      → (refused_list r ≡ list_answer map W code L S count before content) × (before ≡ list_page map W code L S count before content)
  list-turned-away f = refused-list map W code L S count before content (refused-some _ (sym e ∙ f))
