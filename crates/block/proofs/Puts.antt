-- A PUT, as the program makes it.
--   within-limits, has-directory, number-fits, ends-within   what holds of a put without a ground
--   not-offered                            an answer that is not done offers nothing
--   directory-offer, page-offer            the prices of its two writes are their offers
--   no-directory, both-offered             so what a put to the page costs is told by them
--   tried_pages, page-tried, pages-tried   the loop over the pages
--   chosen-there                           the page chosen is one of the block
--   both-written                           the page is stored, and then its number, which finds the directory as it was
use mathlib.Core.Path.{◌≡◌, refl, sym, ◌∙◌, ap}
use mathlib.Core.List.{List, [], ◌∷◌, ◌++◌}
use mathlib.Core.Option.{Option, none, some}
use Prim.Native.Nat.{ℕ, ◌+◌, ◌*◌, ◌-◌, ◌<◌, ◌≤◌}
use native.Mathlib.Omega.{arith}
use native.Mathlib.Nat.{add-sub_cancel_left}
use lib.ListN.{length, take, drop}
use lib.Seq.{drop-drop}
use borrow.Rule.Slice.PartMut.{put_mid}
use Rattle.cells.specs.Climbs.{house}
use Rattle.cells.specs.Raising.{start_of}
use Rattle.cells.proofs.Parts.{within}
use Rattle.demand.specs.Offers.{Offer, with_offer, choose}
use Rattle.demand.proofs.Offers.{choose-more, chosen}
use Rattle.refusals.specs.Refusals.{limits_ground, directory_code, directory_bytes, directory_strips, directory_size, page_bytes}
use Rattle.refusals.proofs.Refusals.{PutFits, put-in-order, sizes-limits}
use Rattle.page_answers.specs.Answers.{offered}
use Rattle.page_answers.specs.declared.Answer.{Answer}
use Rattle.page_answers.specs.declared.Answer.TheVariants as A
use Rattle.page_promises.specs.Writes.{job_page, answer_of, page_of}
use Rattle.page_promises.specs.Families.{job_offer}
use Rattle.page_promises.proofs.Promise.{page-length}
use Rattle.block_promises.specs.Block.{ground_of_put}
use Rattle.block_promises.specs.Block.{directory_of, page_in, with_part, directory_job, page_job, together, put_offer, put_choice, put_block}
use Rattle.block_promises.proofs.Windows.{with_part-before}
use Rattle.block_promises.proofs.Parts.{Fit, directory-length, page-length-in}
use Rattle.block_promises.proofs.Block.{directory-plain, page-plain}
use Rattle.block_reading.proofs.Lent.{lent-page, page-ends}

-- A PUT without a ground
module _ (code L S P : ℕ) (block content : List ℕ) (g : ground_of_put code L S P block content ≡ none) where
  fitting : PutFits code L S P (length block) (length content)
  fitting = put-in-order code L S P (length block) (length content) g

  -- L and S are within their limits
  pub within-limits : limits_ground L S ≡ none
  within-limits = sizes-limits code L S fitting.sizes

  -- it has a directory
  pub has-directory : directory_size ≤ length block
  has-directory = omega (arith, fitting.block-is)

  -- the number of a page is a byte
  pub number-fits : {i : ℕ} → i < P → i < 256
  number-fits h = omega (arith, fitting.few)

  -- and the page ends within the block
  pub ends-within : {i a n : ℕ} → i < P → a ≡ directory_size + page_bytes L S * i → n ≡ page_bytes L S → a + n ≤ length block
  ends-within = page-ends fitting

-- an answer that is not done offers nothing
pub not-offered : (r : Answer) → ((cost : ℕ) → r ≡ A.Done cost → ⊥) → offered r ≡ none
not-offered (A.Done cost) n = absurd (n cost refl)
not-offered (A.Spent strip) n = refl
not-offered (A.Refused r) n = refl

-- A PUT TO PAGE i
module _ (code L S P : ℕ) (block content : List ℕ) (F : Fit code L S P block content) (i : ℕ) (inside : i < P) where
  -- the directory's price is its offer
  directory-offer : {r : Answer} → r ≡ answer_of house directory_code directory_bytes directory_strips (directory_of block) (i ∷ [])
      → offered r ≡ job_offer (directory_job block i)
  directory-offer e = ap offered (e ∙ sym (directory-plain start_of code L S P block content F i inside).0)

  -- and the page's
  page-offer : {r : Answer} → r ≡ answer_of house code L S (page_in L S i block) content
      → offered r ≡ job_offer (page_job code L S block content i)
  page-offer e = ap offered (e ∙ sym (page-plain start_of code L S P block content F i inside).0)

  -- where the directory is spent there is no offer
  pub no-directory : {r : Answer} → r ≡ answer_of house directory_code directory_bytes directory_strips (directory_of block) (i ∷ [])
      → offered r ≡ none → offered r ≡ put_offer code L S P block content i
  unfolding put_offer
  no-directory e n = let z : job_offer (directory_job block i) ≡ none = sym (directory-offer e) ∙ n in rw z n

  -- else it is that of both
  pub both-offered : {r p : Answer} {d a n : ℕ} {q : Option ℕ}
      → r ≡ answer_of house directory_code directory_bytes directory_strips (directory_of block) (i ∷ []) → r ≡ A.Done d
      → a ≡ directory_size + page_bytes L S * i → n ≡ page_bytes L S
      → p ≡ answer_of house code L S (take (a + n - a) (drop a block)) content
      → q ≡ together (some d) (offered p) → q ≡ put_offer code L S P block content i
  unfolding put_offer
  both-offered {d = d} e f s t g h =
      let z : job_offer (directory_job block i) ≡ some d = sym (directory-offer e) ∙ ap offered f in
      rw (z, ← page-offer (rw (lent-page L S i block s t) at g)) h

  -- THE BLOCK WITH BOTH WRITTEN: the page is stored first, behind the directory, which the second write finds as it was
  module _ {a n : ℕ} (s : a ≡ directory_size + page_bytes L S * i) (t : n ≡ page_bytes L S) where
    page-now : List ℕ
    page-now = job_page none (page_job code L S block content i) start_of

    page_long : length page-now ≡ page_bytes L S
    unfolding page-now
    page_long =
        ap length (page-plain start_of code L S P block content F i inside).1
        ∙ page-length start_of none house code L S (page_in L S i block) content ∙ page-length-in L S P i block F.fits.block-is inside

    directory-now : List ℕ
    directory-now = job_page none (directory_job block i) start_of

    directory-long : length directory-now ≡ 6
    unfolding directory-now
    directory-long =
        ap length (directory-plain start_of code L S P block content F i inside).1
        ∙ page-length start_of none house directory_code directory_bytes directory_strips (directory_of block) (i ∷ [])
        ∙ directory-length L S P block F.fits.block-is

    -- the page is stored
    page-stored : {page : List ℕ} → page ≡ page_of house code L S (take (a + n - a) (drop a block)) content
        → put_mid a (a + n - a) block page ≡ with_part a page-now block
    unfolding page-now
    page-stored e =
        let p = (rw (lent-page L S i block s t) at e) ∙ sym (page-plain start_of code L S P block content F i inside).1 in
        rw (p, add-sub_cancel_left a n, drop-drop n a block, page_long, t) refl

    fits : a + length page-now ≤ length block
    fits = omega (arith, page_long, F.fits.block-is, within (page_bytes L S) i P inside)

    -- the directory is as it was
    as_before : directory_of (with_part a page-now block) ≡ directory_of block
    as_before = with_part-before a page-now block fits 0 6 (omega arith)

    pub both-written : {page directory : List ℕ} → page ≡ page_of house code L S (take (a + n - a) (drop a block)) content
        → directory
        ≡ page_of house directory_code directory_bytes directory_strips (directory_of (put_mid a (a + n - a) block page)) (i ∷ [])
        → directory ++ drop 6 (put_mid a (a + n - a) block page) ≡ put_block code L S P block content i start_of
    unfolding put_block page-now directory-now
    both-written e f =
        let d = (rw (page-stored e, as_before) at f)
        ∙ sym (directory-plain start_of code L S P block content F i inside).1 in
        rw (page-stored e, d, directory-long, s) refl

-- THE LOOP over the pages. The choice among the first n of them
abbrev pub tried_pages : (code L S P : ℕ) (block content : List ℕ) → ℕ → Option Offer
tried_pages code L S P block content n = choose (λ i. 0) (put_offer code L S P block content) n

module _ (code L S P : ℕ) (block content : List ℕ) where
  -- one more page, by what a put to it would cost
  pub page-tried : (k : ℕ) (offer : Answer) {so_far after : Option Offer} → offered offer ≡ put_offer code L S P block content k
      → so_far ≡ tried_pages code L S P block content k → after ≡ with_offer so_far k 0 (offered offer)
      → after ≡ tried_pages code L S P block content (k + 1)
  page-tried k offer o s a = choose-more (λ i. 0) (put_offer code L S P block content) k s (a ∙ rw o refl)

  -- after the last turn the choice is the put's
  pub pages-tried : {k : ℕ} → k ≤ P → P ≤ k → tried_pages code L S P block content k ≡ put_choice code L S P block content
  unfolding put_choice
  pages-tried {k} a b = let z : k ≡ P = omega arith in rw z refl

  -- the page chosen is one of the block
  pub chosen-there : {o : Offer} → put_choice code L S P block content ≡ some o → o.number < P
  unfolding put_choice
  chosen-there e = (chosen (λ j. 0) (put_offer code L S P block content) P e).inside
