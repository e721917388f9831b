-- The grounds of a refusal: what holds of a call that has none, and what an answer tells of the ground.
--   one-to-64, limits-in, limits-below, limits-above   the limits
--   limits-in-order, limits-most, sizes-limits   L and S where the limits have no ground
--   page-most                              a page then has at most 24,576 bytes
--   shape-limits, shape-in-order, in_order   a call without a ground: its shape (InShape), and its lengths (Measured)
--   read_fits                              a read of the right sizes and lengths has no ground
--   weights-dear                           no step is free where the weights have no ground
--   NoGround, no-grounds, none-applies     a price or write, of one data or a list, without a ground
--   same-weights, permitted-ground         with weights that are permitted it is refused as a read is
--   house-ground                           with the house's weights it is refused as a read is
--   weighted-in-order, map-in-order        a price or write without a ground, with a map or without
--   count-in-order, single-ground          a list without a ground: its count, and each of its writes
--   code-ground, value-ground              a write in a permitted band is refused as the plain write of the same page is
--   band-limit, band-permitted, value-band   a band without a ground is at most 8, and the other way round
--   pages-limits                           the number of pages of a block
--   PutFits, put-in-order, put-permitted   a put without a ground: the number of pages, and both lengths; the other way round
--   live-there, live-permitted             a live page that has no ground is there, and the other way round
--   erasing-shape, block-erased            an erase without a ground: its shape; that of a block: its length
--   same-ground, same-erasing              a map that has no ground refuses nothing more
--   sizes-number                           the code, L and S are refused by 1 to 3
--   done_none, refused-some                an answer tells its ground
--   refused-first, judged-and              grounds tested one after the other
--   numbered-code                          the code of a number
--   product-most                           L·S is at most 4,096
use mathlib.Core.Path.{◌≡◌, refl, sym, ◌∙◌, ap}
use mathlib.Core.Bool.{Bool, true, false, cond, ◌&&◌, ◌||◌}
use mathlib.Core.List.{List}
use mathlib.Core.Option.{Option, none, some}
use Prim.Native.Nat.{ℕ, zero, suc, ◌*◌, ◌<◌, ◌≤◌}
use native.Mathlib.Omega.{arith}
use native.Mathlib.Nat.{mul-le-mul}
use lib.Dec.{eqb, leb, ltb}
use lib.IntN.{ℤ}
use borrow.Author.Tests.{eq-eqb, eqb-true, eqb-false, le-leb, lt-leb, leb-true, ltb-true, lt-ltb}
use Rattle.cells.specs.Climbs.{house, weight_of}
use Rattle.cells.proofs.Places.{and_both}
use Rattle.codes.specs.Generators.{short, long}
use Rattle.codes.specs.Layouts.{one_bit, byte_count, map_count}
use Rattle.codes.proofs.Layouts.{one_bit-bytes}
use Rattle.codes.proofs.Codes.{Coded, short-coded, long-coded}
use Rattle.refusals.specs.Refusals.{one_to_64, is_code, free_step, first_of, code_ground, bytes_ground, strips_ground, weights_ground}
use Rattle.refusals.specs.Refusals.{count_ground, page_ground, map_ground, data_count, datas_ground, lengths_ground}
use Rattle.refusals.specs.Refusals.{limits_ground, sizes_ground, shape_ground, ground, list_ground, call_ground, write_ground}
use Rattle.refusals.specs.Refusals.{band_ground, band_bytes, band_strips, value_ground, erasing_ground, completion_of, refusal_number}
use Rattle.refusals.specs.Refusals.{page_bytes, block_size, pages_ground, block_ground, put_ground, live_ground, block_erasing}
use Rattle.refusals.specs.Refusals.{numbered}
use Rattle.refusals.specs.declared.Refusal.{Refusal}
use Rattle.refusals.specs.declared.Refusal.TheVariants.{CodeUnknown, BytesOutside, StripsOutside, WeightZero}
use Rattle.std.specs.Prelude.{Result, Ok, Err, ⊤, IsErrAnd}
use Rattle.std.specs.Result.{result_and}

-- THE LIMITS. What a number from 1 to 64 is
pub one-to-64 : (n : ℕ) → one_to_64 n ≡ true → (1 ≤ n) × (n ≤ 64)
unfolding one_to_64
one-to-64 n e = let p = and_both (leb 1 n) (leb n 64) e in (leb-true 1 n p.0, leb-true n 64 p.1)

module _ (n : ℕ) where
  -- a number from 1 to 64
  pub limits-in : 1 ≤ n → n ≤ 64 → one_to_64 n ≡ true
  unfolding one_to_64
  limits-in l h = simp (le-leb _ _ l, le-leb _ _ h)

  -- a number below 1
  pub limits-below : n < 1 → one_to_64 n ≡ false
  unfolding one_to_64
  limits-below l = simp (lt-leb _ _ l)

  -- a number above 64
  pub limits-above : 64 < n → one_to_64 n ≡ false
  unfolding one_to_64
  limits-above h = let l : 1 ≤ n = omega arith in simp (le-leb _ _ l, lt-leb _ _ h)

-- THE GROUNDS. No ground where neither of two applies
neither : (g h : Option Refusal) → first_of g h ≡ none → (g ≡ none) × (h ≡ none)
neither none h e = (refl, e)
neither (some r) h e = (e, let z : ◌≡◌ {A = ℕ} 0 1 = cc in absurd (omega arith))

-- a test holds where its ground does not apply
no_ground : (b : Bool) (r : Refusal) → cond b none (some r) ≡ none → b ≡ true
no_ground true r e = refl
no_ground false r e = let z : ◌≡◌ {A = ℕ} 0 1 = cc in absurd (omega arith)

-- two lengths are equal where the ground of their test does not apply
same_length : (m n : ℕ) (r : Refusal) → cond (eqb m n) none (some r) ≡ none → m ≡ n
same_length m n r e = eqb-true m n (no_ground (eqb m n) r e)

-- L and S where the limits are kept
limits-in-order : (L S : ℕ) → limits_ground L S ≡ none → (one_to_64 L ≡ true) × (one_to_64 S ≡ true)
unfolding limits_ground bytes_ground strips_ground
limits-in-order L S e =
    let p = neither (bytes_ground L) (strips_ground S) e in
    (no_ground (one_to_64 L) _ p.0, no_ground (one_to_64 S) _ p.1)

-- neither is above 64
pub limits-most : (L S : ℕ) → limits_ground L S ≡ none → (L ≤ 64) × (S ≤ 64)
limits-most L S e = let l = limits-in-order L S e in ((one-to-64 L l.0).1, (one-to-64 S l.1).1)

-- L·S is at most 4,096
pub product-most : (L S : ℕ) → one_to_64 L ≡ true → one_to_64 S ≡ true → L * S ≤ 4096
product-most L S l s = mul-le-mul {n₁ = L} {m₁ = S} {n₂ = 64} {m₂ = 64} (one-to-64 L l).1 (one-to-64 S s).1

pub limits-size : (L S : ℕ) → limits_ground L S ≡ none → L * S ≤ 4096
limits-size L S e = let l = limits-in-order L S e in product-most L S l.0 l.1

-- a page has at most 24,576 bytes
pub page-most : (L S : ℕ) → limits_ground L S ≡ none → page_bytes L S ≤ 24576
page-most L S e =
    let l = limits-most L S e in
    mul-le-mul {n₁ = byte_count one_bit L} {m₁ = S} {n₂ = 384} {m₂ = 64} (rw one_bit-bytes (omega arith)) l.1

-- the limits are kept where the shape has no ground
pub shape-limits : (L S page : ℕ) → shape_ground L S page ≡ none → limits_ground L S ≡ none
unfolding shape_ground
shape-limits L S page e = (neither (limits_ground L S) (page_ground one_bit L S page) e).0

-- L, S and the page's length where the shape is in order
pub record InShape (L S page : ℕ) : Type 0 where
  pub bytes_in : one_to_64 L ≡ true
  pub strips_in : one_to_64 S ≡ true
  pub page_is : page ≡ byte_count one_bit L * S

pub shape-in-order : (L S page : ℕ) → shape_ground L S page ≡ none → InShape L S page
unfolding shape_ground page_ground
shape-in-order L S page e =
    let p = neither (limits_ground L S) (page_ground one_bit L S page) e in
    let l = limits-in-order L S p.0 in
    record { bytes_in = l.0; strips_in = l.1; page_is = same_length page (byte_count one_bit L * S) _ p.1 }

-- the limits are kept where the code and the limits have no ground
pub sizes-limits : (code L S : ℕ) → sizes_ground code L S ≡ none → limits_ground L S ≡ none
unfolding sizes_ground
sizes-limits code L S e = (neither (code_ground code) (limits_ground L S) e).1

-- L, S and the lengths of page and data of a call that is in order
pub record Measured (count : Option ℕ) (L S page content : ℕ) : Type 0 where
  pub bytes_in : one_to_64 L ≡ true
  pub strips_in : one_to_64 S ≡ true
  pub page_is : page ≡ byte_count one_bit L * S
  pub data_is : content ≡ data_count count L S

-- by the grounds of the limits and of the lengths
measured : (count map : Option ℕ) (L S page content : ℕ) → limits_ground L S ≡ none → lengths_ground count map L S page content ≡ none
    → Measured count L S page content
unfolding lengths_ground page_ground datas_ground
measured count map L S page content e f =
    let l = limits-in-order L S e in
    let p = neither (page_ground one_bit L S page) _ f in
    let q = neither (map_ground one_bit L S map) (datas_ground count L S content) p.1 in
    record {
      bytes_in = l.0;
      strips_in = l.1;
      page_is = same_length page (byte_count one_bit L * S) _ p.0;
      data_is = same_length content (data_count count L S) _ q.1;
    }

-- a read without a ground
pub in_order : (code L S page content : ℕ) → ground code L S page content ≡ none → Measured none L S page content
unfolding ground
in_order code L S page content e =
    let p = neither (sizes_ground code L S) (lengths_ground none none L S page content) e in
    measured none none L S page content (sizes-limits code L S p.0) p.1

-- and of the right sizes and lengths it has none
pub read_fits : (code L S page content : ℕ) → sizes_ground code L S ≡ none → page ≡ page_bytes L S → content ≡ L * S
    → ground code L S page content ≡ none
unfolding ground lengths_ground page_ground datas_ground
read_fits code L S page content s p d = rw (s, p, d, eq-eqb (page_bytes L S) (page_bytes L S) refl, eq-eqb (L * S) (L * S) refl)

-- THE WEIGHTS. No step is free where they have no ground
weights-told : (a b c : Bool) → cond (a || b || c) (some WeightZero) none ≡ none → (a ≡ false) × (b ≡ false) × (c ≡ false)
weights-told true b c e = let z : ◌≡◌ {A = ℕ} 0 1 = cc in absurd (omega arith)
weights-told false true c e = let z : ◌≡◌ {A = ℕ} 0 1 = cc in absurd (omega arith)
weights-told false false true e = let z : ◌≡◌ {A = ℕ} 0 1 = cc in absurd (omega arith)
weights-told false false false e = (refl, refl, refl)

pub weights-dear : (W : List ℕ) → weights_ground W ≡ none → (l : ℕ) → l < 3 → 0 < weight_of W l
unfolding weights_ground free_step
weights-dear W e l h = go l h (weights-told (eqb (weight_of W 0) 0) (eqb (weight_of W 1) 0) (eqb (weight_of W 2) 0) e)
  where
    above : (n : ℕ) → eqb n 0 ≡ false → 0 < n
    above zero f = absurd (eqb-false 0 0 f refl)
    above (suc n) f = omega arith

    go : (l : ℕ) → l < 3
        → (eqb (weight_of W 0) 0 ≡ false) × (eqb (weight_of W 1) 0 ≡ false) × (eqb (weight_of W 2) 0 ≡ false) → 0 < weight_of W l
    go zero h p = above _ p.0
    go (suc zero) h p = above _ p.1
    go (suc (suc zero)) h p = above _ p.2
    go (suc (suc (suc l))) h p = absurd (let z : ⊥ = omega arith in z)

-- A PRICE OR A WRITE, of one data or a list, without a ground has none of these
pub record NoGround (count map : Option ℕ) (W : List ℕ) (code L S page content : ℕ) : Type 0 where
  pub sizes : sizes_ground code L S ≡ none
  pub weights : weights_ground W ≡ none
  pub counted : count_ground count ≡ none
  pub lengths : lengths_ground count map L S page content ≡ none

pub no-grounds : (count map : Option ℕ) (W : List ℕ) (code L S page content : ℕ) → list_ground count map W code L S page content ≡ none
    → NoGround count map W code L S page content
unfolding list_ground
no-grounds count map W code L S page content e =
    let p = neither (sizes_ground code L S) _ e in
    let q = neither (weights_ground W) _ p.1 in
    let r = neither (count_ground count) _ q.1 in
    record { sizes = p.0; weights = q.0; counted = r.0; lengths = r.1 }

-- and where none of these applies there is none
pub none-applies : (count map : Option ℕ) (W : List ℕ) (code L S page content : ℕ) → sizes_ground code L S ≡ none → weights_ground W ≡ none
    → count_ground count ≡ none → map_ground one_bit L S map ≡ none → page ≡ byte_count one_bit L * S → content ≡ data_count count L S
    → list_ground count map W code L S page content ≡ none
unfolding list_ground lengths_ground page_ground datas_ground
none-applies count map W code L S page content s w n m p d =
    rw (
      s,
      w,
      n,
      m,
      p,
      d,
      eq-eqb (byte_count one_bit L * S) (byte_count one_bit L * S) refl,
      eq-eqb (data_count count L S) (data_count count L S) refl,
    )

-- with other weights that are permitted it has no ground either
pub same-weights : (map : Option ℕ) (U W : List ℕ) (code L S page content : ℕ) → weights_ground W ≡ none
    → call_ground map U code L S page content ≡ none → call_ground map U code L S page content ≡ call_ground map W code L S page content
unfolding list_ground
same-weights map U W code L S page content w e = rw ((no-grounds none map U code L S page content e).weights, w)

-- L, S and the lengths are in order
pub weighted-in-order : (count map : Option ℕ) (W : List ℕ) (code L S page content : ℕ)
    → list_ground count map W code L S page content ≡ none → Measured count L S page content
weighted-in-order count map W code L S page content e =
    let p = no-grounds count map W code L S page content e in
    measured count map L S page content (sizes-limits code L S p.sizes) p.lengths

-- and the map's length, where there is a map
pub map-in-order : (map : ℕ) (W : List ℕ) (code L S page content : ℕ) → call_ground (some map) W code L S page content ≡ none
    → map ≡ map_count one_bit L * S
unfolding lengths_ground
map-in-order map W code L S page content e =
    let p = neither (page_ground one_bit L S page) _ (no-grounds none (some map) W code L S page content e).lengths in
    same_length map (map_count one_bit L * S) _ (neither (map_ground one_bit L S (some map)) (datas_ground none L S content) p.1).0

-- A LIST without a ground: its count
pub count-in-order : (count : ℕ) (map : Option ℕ) (W : List ℕ) (code L S page content : ℕ)
    → list_ground (some count) map W code L S page content ≡ none → one_to_64 count ≡ true
count-in-order count map W code L S page content e =
    no_ground (one_to_64 count) _ (no-grounds (some count) map W code L S page content e).counted

-- and each of its writes has none, on a page of the same length with L·S bytes of data
pub single-ground : (count : ℕ) (map : Option ℕ) (W : List ℕ) (code L S page content : ℕ)
    → list_ground (some count) map W code L S page content ≡ none → call_ground map W code L S page (L * S) ≡ none
unfolding list_ground lengths_ground datas_ground
single-ground count map W code L S page content e =
    let p = no-grounds (some count) map W code L S page content e in
    let q = neither (page_ground one_bit L S page) _ p.lengths in
    let r = neither (map_ground one_bit L S map) _ q.1 in
    rw (p.sizes, p.weights, q.0, r.0, eq-eqb (L * S) (L * S) refl)

-- a map that has no ground refuses nothing more
pub same-ground : (count map : Option ℕ) (W : List ℕ) (code L S page content : ℕ) → map_ground one_bit L S map ≡ none
    → list_ground count map W code L S page content ≡ list_ground count none W code L S page content
unfolding list_ground lengths_ground
same-ground count map W code L S page content e = rw e

-- AN ERASE without a ground: its shape
pub erasing-shape : (map : Option ℕ) (L S page : ℕ) (tenths : ℤ) → erasing_ground map L S page tenths ≡ none → InShape L S page
unfolding erasing_ground
erasing-shape map L S page tenths e = shape-in-order L S page (neither (shape_ground L S page) _ e).0

-- a map that has no ground refuses nothing more
pub same-erasing : (map : Option ℕ) (L S page : ℕ) (tenths : ℤ) → map_ground one_bit L S map ≡ none
    → erasing_ground map L S page tenths ≡ erasing_ground none L S page tenths
unfolding erasing_ground
same-erasing map L S page tenths e = rw e

-- WITHOUT A MAP a price or a write is refused as a read is, where no step is free
pub permitted-ground : (W : List ℕ) (code L S page content : ℕ) → weights_ground W ≡ none
    → write_ground W code L S page content ≡ ground code L S page content
unfolding list_ground ground
permitted-ground W code L S page content e = rw e

-- as with the house's weights, none of which is 0
pub house-ground : (code L S page content : ℕ) → write_ground house code L S page content ≡ ground code L S page content
unfolding weights_ground free_step weight_of
house-ground code L S page content = permitted-ground house code L S page content refl

-- A WRITE IN A BAND. Of the code, L and S of its page only the code can be refused
pub code-ground : (code : ℕ) → sizes_ground code band_bytes band_strips ≡ code_ground code
unfolding sizes_ground code_ground limits_ground bytes_ground strips_ground one_to_64
code-ground code = go (is_code code)
  where
    go : (b : Bool) → first_of (cond b none (some CodeUnknown)) none ≡ cond b none (some CodeUnknown)
    go true = refl
    go false = refl

-- a band that has no ground is at most 8
pub band-limit : (M : ℕ) → band_ground M ≡ none → M ≤ 8
unfolding band_ground
band-limit M e = leb-true M 8 (no_ground (leb M 8) _ e)

-- and one of at most 8 has none
pub band-permitted : (M : ℕ) → M ≤ 8 → band_ground M ≡ none
unfolding band_ground
band-permitted M h = rw (le-leb M 8 h)

-- a write in a band without a ground is of such a band
pub value-band : (code M page : ℕ) → value_ground code M page ≡ none → band_ground M ≡ none
unfolding value_ground
value-band code M page e = (neither (band_ground M) _ (neither (code_ground code) _ e).1).0

-- in a permitted band it is refused as the plain write of the same page is, with two bytes of data
pub value-ground : (code M page : ℕ) → band_ground M ≡ none
    → value_ground code M page ≡ write_ground house code band_bytes band_strips page 2
unfolding value_ground ground lengths_ground datas_ground
value-ground code M page e =
    rw (house-ground code band_bytes band_strips page 2, e, code-ground code)
    (go (code_ground code) (page_ground one_bit band_bytes band_strips page))
  where
    go : (g h : Option Refusal) → first_of g h ≡ first_of g (first_of h none)
    go (some r) h = refl
    go none none = refl
    go none (some r) = refl

-- THE PAGES OF A BLOCK. Their number is from 2 to 16 where it has no ground
pub pages-limits : (P : ℕ) → pages_ground P ≡ none → (2 ≤ P) × (P ≤ 16)
unfolding pages_ground
pages-limits P e =
    let n = and_both (leb 2 P) (leb P 16) (no_ground (leb 2 P && leb P 16) _ e) in
    (leb-true 2 P n.0, leb-true P 16 n.1)

-- A PUT without a ground: the code, L and S, the number of pages, and both lengths
pub record PutFits (code L S P block content : ℕ) : Type 0 where
  pub sizes : sizes_ground code L S ≡ none
  pub some-two : 2 ≤ P
  pub few : P ≤ 16
  pub block-is : block ≡ block_size L S P
  pub data_is : content ≡ L * S

pub put-in-order : (code L S P block content : ℕ) → put_ground code L S P block content ≡ none → PutFits code L S P block content
unfolding put_ground block_ground datas_ground
put-in-order code L S P block content e =
    let p = neither (sizes_ground code L S) _ e in
    let q = neither (pages_ground P) _ p.1 in
    let r = neither (block_ground L S P block) (datas_ground none L S content) q.1 in
    let n = pages-limits P q.0 in
    record {
      sizes = p.0;
      some-two = n.0;
      few = n.1;
      block-is = same_length block (block_size L S P) _ r.0;
      data_is = same_length content (L * S) _ r.1;
    }

-- and where all is permitted there is none
pub put-permitted : (code L S P block content : ℕ) → sizes_ground code L S ≡ none → pages_ground P ≡ none → block ≡ block_size L S P
    → content ≡ L * S → put_ground code L S P block content ≡ none
unfolding put_ground block_ground datas_ground
put-permitted code L S P block content s p b d =
    rw (s, p, b, d, eq-eqb (block_size L S P) (block_size L S P) refl, eq-eqb (L * S) (L * S) refl)

-- a page that is not missing has a number below that of the pages
pub live-there : (P live : ℕ) → live_ground P live ≡ none → live < P
unfolding live_ground
live-there P live e = ltb-true live P (no_ground (ltb live P) _ e)

-- and one that is there has none
pub live-permitted : (P live : ℕ) → live < P → live_ground P live ≡ none
unfolding live_ground
live-permitted P live h = rw (lt-ltb live P h)

-- the erase of a block without a ground: its length
pub block-erased : (L S P block : ℕ) (tenths : ℤ) → block_erasing L S P block tenths ≡ none → block ≡ block_size L S P
unfolding block_erasing block_ground
block-erased L S P block tenths e =
    let p = neither (limits_ground L S) _ e in
    let q = neither (pages_ground P) _ p.1 in
    same_length block (block_size L S P) _ (neither (block_ground L S P block) _ q.1).0

-- the code, L and S are refused by 1 to 3
three-tests : (a b c : Bool) {r : Refusal}
    → first_of (cond a none (some CodeUnknown)) (first_of (cond b none (some BytesOutside)) (cond c none (some StripsOutside))) ≡ some r
    → (1 ≤ refusal_number r) × (refusal_number r ≤ 3)
three-tests false b c {r} e = let n : 1 ≡ refusal_number r = cc in (omega arith, omega arith)
three-tests true false c {r} e = let n : 2 ≡ refusal_number r = cc in (omega arith, omega arith)
three-tests true true false {r} e = let n : 3 ≡ refusal_number r = cc in (omega arith, omega arith)
three-tests true true true e = let z : ◌≡◌ {A = ℕ} 0 1 = cc in absurd (omega arith)

pub sizes-number : (code L S : ℕ) {r : Refusal} → sizes_ground code L S ≡ some r → (1 ≤ refusal_number r) × (refusal_number r ≤ 3)
unfolding sizes_ground limits_ground code_ground bytes_ground strips_ground
sizes-number code L S e = three-tests (is_code code) (one_to_64 L) (one_to_64 S) e

-- an answer that is done has no ground
pub done_none : (g : Option Refusal) → completion_of g ≡ Ok tt → g ≡ none
done_none none e = refl
done_none (some r) e = let z : ◌≡◌ {A = ℕ} 0 1 = cc in absurd (omega arith)

-- a refusal is its ground
pub refused-some : (g : Option Refusal) {r : Refusal} → completion_of g ≡ Err r → g ≡ some r
refused-some none e = let z : ◌≡◌ {A = ℕ} 0 1 = cc in absurd (omega arith)
refused-some (some s) e = cc

-- and it is that of whatever is tested after it
pub refused-first : (g h : Option Refusal) (c : Result ⊤ Refusal) {r : Refusal} → c ≡ completion_of g → c ≡ Err r
    → c ≡ completion_of (first_of g h)
refused-first none h c e f = let z : ◌≡◌ {A = ℕ} 0 1 = cc in absurd (omega arith)
refused-first (some s) h c e f = e

-- of two that were judged, the first where it is refused, else the later one
pub judged-and : (g h : Option Refusal) {c d : Result ⊤ Refusal} → c ≡ completion_of g → d ≡ completion_of h
    → result_and c d ≡ completion_of (first_of g h)
judged-and none h e f = rw e f
judged-and (some r) h e f = rw e refl

-- THE CODE of a number: its generators are those of a code
pub numbered-code : (code : ℕ) → Coded (numbered code)
unfolding numbered
numbered-code code = go (eqb code 3)
  where
    go : (b : Bool) → Coded (cond b short long)
    go true = short-coded
    go false = long-coded
