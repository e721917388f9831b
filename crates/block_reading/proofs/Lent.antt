-- THE PARTS OF A BLOCK THAT ARE LENT.
--   judged-fits      what a put's judge lets pass fits
--   judged-there     what the live page's judge lets pass is there
--   lent-page        the part that is lent is the page
--   page-ends        a page of the block ends within it
--   page-reads       the page is in order for a read
--   directory-reads  the directory is read by code 3, with L = 1 and S = 1
use mathlib.Core.Path.{◌≡◌, refl, sym, ◌∙◌}
use mathlib.Core.List.{List}
use mathlib.Core.Option.{none}
use Prim.Native.Nat.{ℕ, ◌+◌, ◌*◌, ◌-◌, ◌<◌, ◌≤◌}
use native.Mathlib.Omega.{arith}
use native.Mathlib.Nat.{add-sub_cancel_left}
use lib.ListN.{length, take, drop}
use lib.Seq.{length-take-le}
use Rattle.cells.proofs.Parts.{within}
use Rattle.codes.proofs.Layouts.{one_bit-bytes}
use Rattle.refusals.specs.Refusals.{one_to_64, is_code, code_ground, bytes_ground, strips_ground, limits_ground, sizes_ground, ground}
use Rattle.refusals.specs.Refusals.{directory_code, directory_bytes, directory_strips, directory_size, page_bytes}
use Rattle.refusals.specs.Refusals.{put_ground, live_ground, completion_of}
use Rattle.refusals.specs.declared.Refusal.{Refusal}
use Rattle.refusals.proofs.Refusals.{done_none, read_fits, PutFits, put-in-order, live-there}
use Rattle.block_promises.specs.Block.{directory_of, page_in}
use Rattle.block_promises.proofs.Parts.{page-length-in}
use Rattle.std.specs.Prelude.{Result, Ok, ⊤}

-- what a put's judge lets pass fits
pub judged-fits : {code L S P block content : ℕ} {c : Result ⊤ Refusal} → c ≡ completion_of (put_ground code L S P block content) → c ≡ Ok tt
    → PutFits code L S P block content
judged-fits e f = put-in-order _ _ _ _ _ _ (done_none _ (sym e ∙ f))

-- the number that the live page's judge lets pass is that of a page
pub judged-there : {P live : ℕ} {c : Result ⊤ Refusal} → c ≡ completion_of (live_ground P live) → c ≡ Ok tt → live < P
judged-there e f = live-there _ _ (done_none _ (sym e ∙ f))

-- the part that is lent is page i
pub lent-page : (L S i : ℕ) (block : List ℕ) {a n : ℕ} → a ≡ directory_size + page_bytes L S * i → n ≡ page_bytes L S
    → take (a + n - a) (drop a block) ≡ page_in L S i block
lent-page L S i block e f = rw (e, f, add-sub_cancel_left (directory_size + page_bytes L S * i) (page_bytes L S)) refl

-- page i ends within the block
pub page-ends : {code L S P block content : ℕ} → PutFits code L S P block content → {i a n : ℕ} → i < P
    → a ≡ directory_size + page_bytes L S * i → n ≡ page_bytes L S → a + n ≤ block
page-ends {L = L} {S = S} {P = P} F {i = i} h e f = omega (arith, F.block-is, within (page_bytes L S) i P h)

-- page i is in order for a read
pub page-reads : (block : List ℕ) {code L S P content : ℕ} → PutFits code L S P (length block) content → {i : ℕ} → i < P
    → ground code L S (length (page_in L S i block)) content ≡ none
page-reads block {code} {L} {S} {P} {content} F {i} h =
    read_fits code L S (length (page_in L S i block)) content F.sizes (page-length-in L S P i block F.block-is h) F.data_is

-- the directory is in order for a read by code 3, with L = 1 and S = 1
pub directory-reads : (block : List ℕ) → directory_size ≤ length block
    → ground directory_code directory_bytes directory_strips (length (directory_of block)) 1 ≡ none
unfolding sizes_ground code_ground is_code limits_ground bytes_ground strips_ground one_to_64
directory-reads block h =
    read_fits directory_code directory_bytes directory_strips (length (directory_of block)) 1 refl
    (length-take-le directory_size block h ∙ omega (arith, one_bit-bytes 1)) refl
