-- THE FIRST FOUR PUTS INTO A BLOCK AFTER ITS ERASE. The first goes to page 0 and leaves the directory as it is, so that before the fourth
-- no cell of the directory is above level 2; and of pages 0 and 1 one took at most one of the three.
--   Worn             how high the cells of the directory and of pages 0 and 1 are
--   worn-takes       a block that is little worn takes any data
--   worn-more        a put wears the directory and one page by one level
--   first-put        the first put after an erase goes to page 0, and leaves the directory as it is
--   four-certain     THE FIRST FOUR PUTS
use mathlib.Core.Path.{◌≡◌, refl, sym, ◌∙◌, ap, subst}
use mathlib.Core.Bool.{Bool, true, false}
use mathlib.Core.List.{List, [], ◌∷◌}
use mathlib.Core.Logic.{◌⊎◌, ⊎_elim}
use mathlib.Core.Option.{Option, none, some}
use Prim.Native.Nat.{ℕ, zero, suc, ◌<◌, ◌≤◌, ◌+◌, ◌*◌}
use native.Mathlib.Omega.{arith}
use lib.Dec.{ltb}
use lib.ListN.{length, length-replicate}
use borrow.Author.Tests.{ltb-true, ltb-false}
use Rattle.cells.specs.Raising.{start_of}
use Rattle.cells.specs.Climbs.{house}
use Rattle.cells.proofs.Places.{same?, each_first}
use Rattle.cells.proofs.Bytes.{one-octet}
use Rattle.cells.proofs.Parts.{within}
use Rattle.codes.proofs.Layouts.{one_bit-bytes}
use Rattle.demand.specs.Offers.{Offer}
use Rattle.demand.proofs.Offers.{not_none, unchosen}
use Rattle.refusals.specs.Refusals.{one_to_64, is_code, code_ground, bytes_ground, strips_ground, limits_ground, sizes_ground}
use Rattle.refusals.specs.Refusals.{directory_code, directory_bytes, directory_strips, directory_size, page_bytes, block_size, pages_ground}
use Rattle.refusals.proofs.Refusals.{pages-limits, put-permitted}
use Rattle.page_answers.specs.declared.Answer.TheVariants as A
use Rattle.page_promises.specs.Writes.{answer_of, page_by}
use Rattle.page_known.proofs.Known.{cases-hold}
use Rattle.block_promises.specs.Block.{directory_of, page_in, put_offer, put_choice, put_block, ground_of_put, put_answer}
use Rattle.block_promises.proofs.Windows.{zero_bytes, window-zeros}
use Rattle.block_promises.proofs.Parts.{Fit, put-fits}
use Rattle.block_promises.proofs.Block.{directory-plain, page-plain, TwoWrites, two-writes, in-order-put}
use Rattle.certain.specs.Certain.{Permitted, DataFor, Low}
use Rattle.certain.specs.Puts.{certain_puts, block_puts, CertainPuts}
use Rattle.certain.proofs.Certain.{turn-certain, turn_low, no-marks, erased-low, house-permitted}

-- every cell of the directory is below level m, and those of pages 0 and 1 are below levels whose sum is at most k
record Worn (L S m k : ℕ) (block : List ℕ) : Type 0 where
  directory : Low directory_bytes directory_strips m (directory_of block)
  first : ℕ
  second : ℕ
  both : first + second ≤ k
  page-0 : Low L S first (page_in L S 0 block)
  page-1 : Low L S second (page_in L S 1 block)

-- what is below a level is below a higher one
low-more : {L S k n : ℕ} {page : List ℕ} → k ≤ n → Low L S k page → Low L S n page
low-more h l = record { size = l.size; below = λ c i. omega (arith, l.below c i) }

-- the directory is a page that is permitted, and its data a byte
directory-permitted : Permitted house directory_code directory_bytes directory_strips
unfolding sizes_ground code_ground is_code limits_ground bytes_ground strips_ground one_to_64
directory-permitted = house-permitted directory_code directory_bytes directory_strips refl

number-data : (i : ℕ) → i < 256 → DataFor directory_bytes directory_strips (i ∷ [])
number-data i h = record { size = refl; octets = one-octet i h }

module _ (code L S P : ℕ) (block content : List ℕ) (F : Fit code L S P block content) where
  permitted : Permitted house code L S
  permitted = house-permitted code L S F.fits.sizes

  fits-data : DataFor L S content
  fits-data = record { size = F.fits.data_is; octets = F.octets }

  -- A PAGE AND A DIRECTORY below level 3 take any data: by K8
  low-offered : (j : ℕ) → j < P → Low directory_bytes directory_strips 3 (directory_of block) → Low L S 3 (page_in L S j block)
      → (c : ℕ) × (put_offer code L S P block content j ≡ some c)
  unfolding put_offer
  low-offered j h d p =
      let x = turn-certain directory-permitted (no-marks directory_bytes directory_strips) (number-data j (omega (arith, F.fits.few))) d
      (omega arith) in
      let y = turn-certain permitted (no-marks L S) fits-data p (omega arith) in (
        x.cost + y.cost,
        rw (
          (directory-plain start_of code L S P block content F j h).0 ∙ x.done,
          (page-plain start_of code L S P block content F j h).0 ∙ y.done,
        ) refl,
      )

  -- where some page is offered, one is chosen
  offered-chosen : (j c : ℕ) → j < P → put_offer code L S P block content j ≡ some c
      → (o : Offer) × (put_choice code L S P block content ≡ some o)
  unfolding put_choice
  offered-chosen j c h e = go (put_choice code L S P block content) refl
    where
      go : (o : Option Offer) → put_choice code L S P block content ≡ o → (o : Offer) × (put_choice code L S P block content ≡ some o)
      go none f = absurd (not_none e (unchosen (λ i. 0) (put_offer code L S P block content) P f j h))
      go (some o) f = (o, f)

  -- A BLOCK THAT IS LITTLE WORN takes any data
  worn-takes : {m k : ℕ} → Worn L S m k block → m ≤ 3 → k ≤ 7 → (o : Offer) × (put_choice code L S P block content ≡ some o)
  worn-takes w h l = go (ltb w.first 4) refl
    where
      low : Low directory_bytes directory_strips 3 (directory_of block)
      low = low-more h w.directory

      go : (b : Bool) → ltb w.first 4 ≡ b → (o : Offer) × (put_choice code L S P block content ≡ some o)
      go true e =
          let f : w.first < 4 = ltb-true _ _ e in
          let i : 0 < P = omega (arith, F.fits.some-two) in
          let o = low-offered 0 i low (low-more (omega arith) w.page-0) in
          offered-chosen 0 o.0 i o.1
      go false e =
          let f : 4 ≤ w.first = ltb-false _ _ e in
          let i : 1 < P = F.fits.some-two in
          let o = low-offered 1 i low (low-more (omega (arith, w.both)) w.page-1) in
          offered-chosen 1 o.0 i o.1

  -- A PUT WEARS the directory and one page by one level
  module _ {i cost : ℕ} {after : List ℕ} (W : TwoWrites start_of code L S P block content F i after cost) where
    directory-worn : {m : ℕ} → Low directory_bytes directory_strips m (directory_of block)
        → Low directory_bytes directory_strips (suc m) (directory_of after)
    directory-worn d =
        rw W.directory
        (turn_low directory-permitted (no-marks directory_bytes directory_strips)
        (number-data i (omega (arith, W.inside, F.fits.few))) d start_of)

    page-worn : {n : ℕ} → Low L S n (page_in L S i block) → Low L S (suc n) (page_in L S i after)
    page-worn p = rw W.page (turn_low permitted (no-marks L S) fits-data p start_of)

    page-kept : (j : ℕ) {n : ℕ} → (j ≡ i → ⊥) → Low L S n (page_in L S j block) → Low L S n (page_in L S j after)
    page-kept j n p = rw (W.others j n) p

    pages-worn : {m k n : ℕ} → Worn L S m k block → Low directory_bytes directory_strips n (directory_of after) → Worn L S n (suc k) after
    pages-worn {k = k} w low = ⊎_elim
        (λ e. record {
          directory = low;
          first = suc w.first;
          second = w.second;
          both = omega (arith, w.both);
          page-0 = subst (λ j. Low L S (suc w.first) (page_in L S j after)) (sym e)
              (page-worn (subst (λ j. Low L S w.first (page_in L S j block)) e w.page-0));
          page-1 = page-kept 1 (λ z. omega arith) w.page-1;
        })
        (λ n. record {
          directory = low;
          first = w.first;
          second = suc w.second;
          both = omega (arith, w.both);
          page-0 = page-kept 0 n w.page-0;
          page-1 = one (same? 1 i);
        })
        (same? 0 i)
      where
        one : (1 ≡ i) ⊎ (1 ≡ i → ⊥) → Low L S (suc w.second) (page_in L S 1 after)
        one s = ⊎_elim
            (λ e. subst (λ j. Low L S (suc w.second) (page_in L S j after)) (sym e)
            (page-worn (subst (λ j. Low L S w.second (page_in L S j block)) e w.page-1)))
            (λ n. low-more (omega arith) (page-kept 1 n w.page-1))
            s

    worn-more : {m k : ℕ} → Worn L S m k block → Worn L S (suc m) (suc k) after
    worn-more w = pages-worn w (directory-worn w.directory)

-- AN ERASED BLOCK. Its parts are zeros
module _ (L S P : ℕ) where
  abbrev erased-block : List ℕ
  erased-block = zero_bytes (block_size L S P)

  directory-zeros : directory_of erased-block ≡ zero_bytes directory_size
  directory-zeros = window-zeros 0 directory_size (block_size L S P) (omega arith)

  page-zeros : (j : ℕ) → j < P → page_in L S j erased-block ≡ zero_bytes (page_bytes L S)
  page-zeros j h =
      window-zeros (directory_size + page_bytes L S * j) (page_bytes L S) (block_size L S P) (omega (arith, within (page_bytes L S) j P h))

  -- no cell is above level 0
  worn-none : 2 ≤ P → Worn L S 1 2 erased-block
  worn-none h = record {
    directory = rw directory-zeros (erased-low directory_bytes directory_strips directory_size (omega (arith, one_bit-bytes 1)));
    first = 1;
    second = 1;
    both = omega arith;
    page-0 = rw (page-zeros 0 (omega arith)) (erased-low L S (page_bytes L S) refl);
    page-1 = rw (page-zeros 1 (omega arith)) (erased-low L S (page_bytes L S) refl);
  }

  -- THE FIRST PUT goes to page 0, whose number the directory reads as: every page costs the same, and only there the directory nothing
  module _ (code : ℕ) (content : List ℕ) (F : Fit code L S P erased-block content) {i cost : ℕ} {after : List ℕ}
      (W : TwoWrites start_of code L S P erased-block content F i after cost) where
    -- document 01's case: an erased strip takes 00 for nothing, and stays
    row : (answer_of house directory_code directory_bytes directory_strips (zero_bytes directory_size) (0 ∷ []) ≡ A.Done 0)
        × (page_by house directory_code directory_bytes directory_strips (zero_bytes directory_size) (0 ∷ []) start_of ≡ zero_bytes directory_size)
    row = each_first cases-hold

    page-there : 0 < P
    page-there = omega (arith, F.fits.some-two)

    same-page : page_in L S 0 erased-block ≡ page_in L S i erased-block
    same-page = page-zeros 0 page-there ∙ sym (page-zeros i W.inside)

    first-ahead : (cost ≤ 0 + W.of-page) × (0 + W.of-page ≡ cost → i ≤ 0)
    first-ahead =
        W.ahead 0 0 W.of-page page-there (rw directory-zeros row.0)
        (ap (λ (p : List ℕ). answer_of house code L S p content) same-page ∙ W.page-done)

    pub first-put : (i ≡ 0) × (directory_of after ≡ directory_of erased-block)
    first-put =
        let z : i ≡ 0 = omega (arith, first-ahead.1 (omega (arith, first-ahead.0, W.paid))) in
        (z, W.directory ∙ rw (z, directory-zeros) row.1)

-- PUTS ONE AFTER ANOTHER
module _ (L S P : ℕ) (pages : pages_ground P ≡ none) (codes : ℕ → ℕ) (sizes : (i : ℕ) → i < certain_puts → sizes_ground (codes i) L S ≡ none)
    (datas : ℕ → List ℕ) (fit : (i : ℕ) → i < certain_puts → DataFor L S (datas i)) where
  -- the block after n of them
  abbrev at : ℕ → List ℕ
  at n = block_puts L S P (erased-block L S P) codes datas n

  -- how worn it is then
  abbrev low : ℕ → ℕ
  low zero = 1
  low (suc n) = suc n

  -- of the right length it has no ground
  no_ground : (n : ℕ) → n < certain_puts → length (at n) ≡ block_size L S P → ground_of_put (codes n) L S P (at n) (datas n) ≡ none
  no_ground n h e =
      put-permitted (codes n) L S P (length (at n)) (length (datas n)) (sizes n h) pages e (fit n h).size

  fits : (n : ℕ) → n < certain_puts → length (at n) ≡ block_size L S P → Fit (codes n) L S P (at n) (datas n)
  fits n h e = put-fits (codes n) L S P (at n) (datas n) (fit n h).octets (no_ground n h e)

  -- after the first put the directory is as it was, and each later one wears it by one level
  wears : (n : ℕ) (h : n < certain_puts) (e : length (at n) ≡ block_size L S P) → Worn L S (low n) (suc (suc n)) (at n)
      → {i cost : ℕ} {after : List ℕ} → TwoWrites start_of (codes n) L S P (at n) (datas n) (fits n h e) i after cost
      → Worn L S (low (suc n)) (suc (suc (suc n))) after
  unfolding block_puts
  wears zero h e w W =
      pages-worn (codes 0) L S P (erased-block L S P) (datas 0) (fits 0 h e) W w
      (rw (first-put L S P (codes 0) (datas 0) (fits 0 h e) W).1 w.directory)
  wears (suc n) h e w W = worn-more (codes (suc n)) L S P (at (suc n)) (datas (suc n)) (fits (suc n) h e) W w

  -- put number n is done, and wears the block by one
  one-put : (n : ℕ) → n < certain_puts → length (at n) ≡ block_size L S P → Worn L S (low n) (suc (suc n)) (at n)
      → (cost : ℕ) × (put_answer (codes n) L S P (at n) (datas n) ≡ A.Done cost)
      × (length (at (suc n)) ≡ block_size L S P) × Worn L S (low (suc n)) (suc (suc (suc n))) (at (suc n))
  unfolding block_puts
  one-put n h e w =
      let c = worn-takes (codes n) L S P (at n) (datas n) (fits n h e) w (low-most n h) (omega arith) in
      let W = two-writes start_of (codes n) L S P (at n) (datas n) (fits n h e) c.1 in
      let z = in-order-put start_of (codes n) L S P (at n) (datas n) (no_ground n h e) in
      let b : at (suc n) ≡ put_block (codes n) L S P (at n) (datas n) c.0.number start_of = sym z.1 ∙ rw c.1 refl in (
        c.0.cost,
        sym z.0 ∙ rw c.1 refl,
        ap length b ∙ W.long ∙ e,
        rw b (wears n h e w W),
      )
    where
      low-most : (n : ℕ) → n < certain_puts → low n ≤ 3
      low-most zero l = omega arith
      low-most (suc n) l = omega arith

  worn : (n : ℕ) → n ≤ certain_puts → (length (at n) ≡ block_size L S P) × Worn L S (low n) (suc (suc n)) (at n)
  unfolding block_puts
  worn zero h = (length-replicate {A = ℕ} (block_size L S P) 0, worn-none L S P (pages-limits P pages).0)
  worn (suc n) h = let w = worn n (omega arith) in let r = one-put n h w.0 w.1 in (r.2, r.3)

-- THE FIRST FOUR PUTS AFTER AN ERASE
pub four-certain : CertainPuts certain_puts
four-certain = record {
  sure = λ L S P pages codes sizes datas fit i h.
      let w = worn L S P pages codes sizes datas fit i (omega arith) in
      let r = one-put L S P pages codes sizes datas fit i h w.0 w.1 in
      (r.0, r.1);
}
