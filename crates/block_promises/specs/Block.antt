-- A BLOCK OF PAGES (document 02, K9): a directory of 6 bytes, and then P pages of 6·L·S bytes each.
--   directory_of, page_in          the directory, and page i
--   page_cell_count, block_cells   the cells of a page, and of the block; directory_cells, of its directory
--   read_directory                 what the directory reads as
--   live_of                        the number of the live page
--   with_part a new x              a list with a part stored from place a on
--   directory_job, page_job        the two writes of a put to page i
--   together                       the cost of both, where both are done
--   put_offer, put_choice          what a put to page i would cost, and the choice among the pages
--   put_block                      the block with both written
--   put_answer_by, chosen_block    the answer and the block after it, by the ground of a refusal and what is chosen
--   ground_of_put, put_answer      the ground of a put, and its answer
--   block_by, block_after          the block after it, by any order of the raises, and by this release's
--   CouldPut, block_cost           a block whose directory names page i, which reads as the data, with no cell lowered; what it costs
--   PutCheapest                    what a put picks among ALL such blocks, of any page
--   PutPromised, WrotePut          what it promises, on every input; of this release
--   largest_put_cost               it costs at most this
--   ground_of_get, live_page       the ground of a get, and what it reads
use Rattle.std.specs.Prelude.{◌≡◌, List, [], ◌∷◌, ◌++◌, ℕ, ◌+◌, ◌*◌, ◌<◌, ◌≤◌, length, take, drop, get_or}
use Rattle.std.proofs.Math.Option.{Option, none, some}
use Rattle.cells.specs.Levels.{level}
use Rattle.cells.specs.Raising.{start_of, start_in, raised_to}
use Rattle.cells.specs.Climbs.{house, weight_of, cost_of}
use Rattle.codes.specs.Layouts.{one_bit, cell_count}
use Rattle.demand.specs.Jobs.{Job}
use Rattle.demand.specs.Reading.{read_page}
use Rattle.demand.specs.Demand.{LowerAtFirst}
use Rattle.demand.specs.Offers.{Offer, choose}
use Rattle.refusals.specs.Refusals.{numbered, first_of, directory_code, directory_bytes, directory_strips, directory_size, page_bytes}
use Rattle.refusals.specs.Refusals.{put_ground, live_ground}
use Rattle.refusals.specs.declared.Refusal.{Refusal}
use Rattle.page_answers.specs.declared.Answer.{Answer}
use Rattle.page_answers.specs.declared.Answer.TheVariants as A
use Rattle.page_promises.specs.Writes.{job_of, job_page}
use Rattle.page_promises.specs.Families.{job_offer}

-- 'A block has a directory strip (code 3, L = 1, 6 bytes)'
abbrev pub directory_of : List ℕ → List ℕ
directory_of block = take directory_size block

-- 'and then 2 to 16 pages of one shape', numbered from 0
abbrev pub page_in : (L S i : ℕ) → List ℕ → List ℕ
page_in L S i block = take (page_bytes L S) (drop (directory_size + page_bytes L S * i) block)

-- the cells of a page
abbrev pub page_cell_count : (L S : ℕ) → ℕ
page_cell_count L S = cell_count one_bit L * S

-- the cells of a block: those of the directory, and those of the pages
abbrev pub directory_cells : ℕ
directory_cells = 16

abbrev pub block_cells : (L S P : ℕ) → ℕ
block_cells L S P = directory_cells + page_cell_count L S * P

-- what the directory reads as
abbrev pub read_directory : List ℕ → List ℕ
read_directory block = read_page (numbered directory_code) directory_bytes directory_strips (directory_of block)

-- 'The directory's data is the number of the live page.'
unfoldable pub live_of : List ℕ → ℕ
live_of block = get_or (read_directory block) 0 0

-- a part stored in a list, from place a on
abbrev pub with_part : ℕ → List ℕ → List ℕ → List ℕ
with_part a new x = take a x ++ (new ++ drop (a + length new) x)

-- 'A put writes one page and the directory', 'unmarked, with one bit a cell and the house weights'
abbrev pub directory_job : (block : List ℕ) → ℕ → Job
directory_job block i = job_of house directory_code directory_bytes directory_strips (directory_of block) (i ∷ [])

abbrev pub page_job : (code L S : ℕ) (block content : List ℕ) → ℕ → Job
page_job code L S block content i = job_of house code L S (page_in L S i block) content

-- 'with the cost of both', where both are done
abbrev pub together : Option ℕ → Option ℕ → Option ℕ
together none q = none
together (some d) none = none
together (some d) (some q) = some (d + q)

-- a put
module _ (code L S P : ℕ) (block content : List ℕ) where
  -- 'page cost plus directory cost'
  unfoldable pub put_offer : ℕ → Option ℕ
  put_offer i = together (job_offer (directory_job block i)) (job_offer (page_job code L S block content i))

  -- 'It chooses the page for which page cost plus directory cost is least, lowest number first. Every page is tried at every put': all are
  -- of one rank
  unfoldable pub put_choice : Option Offer
  put_choice = choose (λ i. 0) put_offer P

  -- both written, and everything else as it was
  unfoldable pub put_block : ℕ → (start : ℕ → ℕ) → List ℕ
  put_block i start =
      with_part 0 (job_page none (directory_job block i) start)
      (with_part (directory_size + page_bytes L S * i) (job_page none (page_job code L S block content i) start) block)

  -- 'answers as a write does, with the cost of both'; spent, 'the strip reported is 0'
  abbrev pub put_answer_by : Option Refusal → Option Offer → Answer
  put_answer_by (some r) o = A.Refused r
  put_answer_by none none = A.Spent 0
  put_answer_by none (some o) = A.Done o.cost

  -- the block after it
  abbrev pub chosen_block : Option Refusal → Option Offer → (start : ℕ → ℕ) → List ℕ
  chosen_block (some r) o start = block
  chosen_block none none start = block
  chosen_block none (some o) start = put_block o.number start

  -- the ground on which it is refused
  abbrev pub ground_of_put : Option Refusal
  ground_of_put = put_ground code L S P (length block) (length content)

  -- THE ANSWER OF A PUT
  unfoldable pub put_answer : Answer
  put_answer = put_answer_by ground_of_put put_choice

  -- THE BLOCK after a put whose raises start where `start` says
  unfoldable pub block_by : (start : ℕ → ℕ) → List ℕ
  block_by start = chosen_block ground_of_put put_choice start

  -- and after a put of this release
  abbrev pub block_after : List ℕ
  block_after = block_by start_of

  -- a block of the same length whose directory reads as the number i, and whose page of that number reads as the data, with no cell of the
  -- block lowered
  pub record CouldPut (i : ℕ) (other : List ℕ) : Type 0 where
    pub size : length other ≡ length block
    pub names : read_directory other ≡ i ∷ []
    pub reads : read_page (numbered code) L S (page_in L S i other) ≡ content
    pub no_lower : (c : ℕ) → c < block_cells L S P → level block c ≤ level other c

  -- what a change of the block costs, over all its cells
  unfoldable pub block_cost : List ℕ → ℕ
  block_cost other = cost_of (weight_of house) (block_cells L S P) block other

  -- WHAT A PUT PICKS, among ALL such blocks, for every page that is there: none costs less; of those that cost the same, none has a lower
  -- number, and among those with its number it has the lower level at the first cell that differs, the directory's cells coming first. Only
  -- cells of the directory and of its page are raised, each from the bit where `start` says: every other page keeps every byte
  pub record PutCheapest (start : ℕ → ℕ) (i : ℕ) (after : List ℕ) (cost : ℕ) : Type 0 where
    pub inside : i < P
    pub could : CouldPut i after
    pub raised-directory : directory_of after
        ≡ raised_to (start_in start (cell_count one_bit directory_bytes)) (directory_of block) (level (directory_of after))
    pub raised-page : page_in L S i after
        ≡ raised_to (start_in start (cell_count one_bit L)) (page_in L S i block) (level (page_in L S i after))
    pub others_keep : (j : ℕ) → j < P → (j ≡ i → ⊥) → page_in L S j after ≡ page_in L S j block
    pub paid : block_cost after ≡ cost
    pub least : (j : ℕ) → j < P → (other : List ℕ) → CouldPut j other → cost ≤ block_cost other
    pub lowest : (j : ℕ) → j < P → (other : List ℕ) → CouldPut j other → block_cost other ≡ cost → i ≤ j
    pub among_equals : (other : List ℕ) → CouldPut i other → block_cost other ≡ cost
        → (c : ℕ) → c < block_cells L S P → (level after c ≡ level other c → ⊥) → LowerAtFirst (block_cells L S P) after other

  -- WHAT A PUT PROMISES. 'Spent means that no page takes the data together with a directory that takes its number; the whole block is then
  -- unchanged and the strip reported is 0.' Refused: by the first ground of the list, and nothing is changed
  pub data PutPromised (start : ℕ → ℕ) (g : Option Refusal) (after : List ℕ) : Answer → Type 0 where
    put-done : {cost : ℕ} → g ≡ none → (i : ℕ) → PutCheapest start i after cost → PutPromised start g after (A.Done cost)
    no_page : g ≡ none → ((j : ℕ) → j < P → (other : List ℕ) → CouldPut j other → ⊥) → after ≡ block
        → PutPromised start g after (A.Spent 0)
    put_refused : {r : Refusal} → g ≡ some r → after ≡ block → PutPromised start g after (A.Refused r)

-- of a put of this release
abbrev pub WrotePut : (code L S P : ℕ) (block content after : List ℕ) → Answer → Type 0
WrotePut code L S P block content after r =
    PutPromised code L S P block content start_of (ground_of_put code L S P block content) after r

-- a page costs at most 1,835,008; no cell of the directory's 16 rises by more than one, at 28 at the most
abbrev pub largest_put_cost : ℕ
largest_put_cost = 1835456

-- the ground of a get: those of the input, and from the state 14
abbrev pub ground_of_get : (code L S P : ℕ) (block : List ℕ) (buffer : ℕ) → Option Refusal
ground_of_get code L S P block buffer = first_of (put_ground code L S P (length block) buffer) (live_ground P (live_of block))

-- 'A get reads the live page'
abbrev pub live_page : (code L S : ℕ) → List ℕ → List ℕ
live_page code L S block = read_page (numbered code) L S (page_in L S (live_of block) block)
