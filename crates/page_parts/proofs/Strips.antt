-- A strip within the page: which strips lie in a page, and parts that are stored one by one.
--   part-ends                           where a part of a list ends
--   part_cut                            a part whose ends are cut off
--   outside, beyond, strip-none, strip-inside, strip-there   which strips lie in a page
--   lent, lent_length, stored-length, part-more   parts that a loop lends and stores
--   sized-by, listed_by, datas-length   a page and data in order, or a list of datas
use mathlib.Core.Path.{◌≡◌, refl, sym, ◌∙◌, ap, subst⁻¹}
use mathlib.Core.Bool.{Bool, true, false}
use mathlib.Core.List.{List, [], ◌++◌}
use mathlib.Core.Option.{none, some}
use Prim.Native.Nat.{ℕ, suc, ◌+◌, ◌*◌, ◌-◌, ◌/◌, ◌<◌, ◌≤◌, min}
use native.Mathlib.Omega.{arith}
use native.Mathlib.Nat.{mul_comm, mul-le-mul_left, mul-div-le, lt-mul-div-succ, add-sub_cancel_left, min-eq_left, min-eq_right}
use lib.Dec.{ltb}
use lib.ListN.{length, take, drop, length-drop, take-append-drop}
use lib.Seq.{take_all, take-nil, length-take-le, take_at, drop_at, take-append-le, drop-append-le}
use borrow.Rule.Slice.PartMut.{same_len_mid}
use borrow.Author.Count.{below_more}
use borrow.Author.Tests.{ltb-true, ltb-false, le-leb, lt-leb}
use Rattle.codes.specs.Layouts.{one_bit, byte_count}
use Rattle.codes.proofs.Layouts.{one_bit-bytes}
use Rattle.demand.specs.Jobs.{part}
use Rattle.page_parts.specs.Shape.{in_page, strip_of, Sized, Listed}
use Rattle.refusals.specs.Refusals.{one_to_64}
use Rattle.refusals.proofs.Refusals.{one-to-64, Measured}
use Rattle.cells.proofs.Parts.{within}

-- THE PAGE'S END. Part k of parts of n places ends within size places where it is one of the whole parts
pub part-ends : (n k size : ℕ) → k < size / n → n * k + n ≤ size
part-ends n k size h = omega (arith, within n k (size / n) h, mul-div-le size n)

-- and beyond them where it is not
part-beyond : (n k size : ℕ) → 0 < n → size / n ≤ k → size < n * k + n
part-beyond n k size p h =
    let m : n * (size / n + 1) ≤ n * (k + 1) = mul-le-mul_left n (omega arith) in
    let e : n * (k + 1) ≡ n * k + n = omega arith in
    omega (arith, lt-mul-div-succ size p)

-- a part whose ends are cut off at the end of the list is the part
pub part_cut : (n k : ℕ) (bytes : List ℕ)
    → take (min (n * k + n) (length bytes) - min (n * k) (length bytes)) (drop (min (n * k) (length bytes)) bytes) ≡ part n k bytes
unfolding part
part_cut n k bytes = go (ltb (length bytes) (n * k)) refl (ltb (length bytes) (n * k + n)) refl
  where
    rest : List ℕ
    rest = drop (n * k) bytes

    long : length rest ≡ length bytes - n * k
    long = length-drop (n * k) bytes

    go : (a : Bool) → ltb (length bytes) (n * k) ≡ a → (b : Bool) → ltb (length bytes) (n * k + n) ≡ b
        → take (min (n * k + n) (length bytes) - min (n * k) (length bytes)) (drop (min (n * k) (length bytes)) bytes) ≡ take n rest
    go true e b f =
        let i : length bytes < n * k = ltb-true (length bytes) (n * k) e in
        let h : length bytes ≤ n * k = omega arith in
        let l : length bytes ≤ n * k + n = omega arith in
        let z : length bytes - length bytes ≡ 0 = omega arith in
        let nil : rest ≡ [] = sym (take_all 0 rest (omega (arith, long))) in
        rw (min-eq_right l, min-eq_right h, z)
        (sym (ap (take n) nil ∙ take-nil n))
    go false e true f =
        let h : n * k ≤ length bytes = ltb-false (length bytes) (n * k) e in
        let i : length bytes < n * k + n = ltb-true (length bytes) (n * k + n) f in
        let l : length bytes ≤ n * k + n = omega arith in
        rw (min-eq_right l, min-eq_left h)
        (take_all (length bytes - n * k) rest (omega (arith, long)) ∙ sym (take_all n rest (omega (arith, long))))
    go false e false f =
        let h : n * k ≤ length bytes = ltb-false (length bytes) (n * k) e in
        let l : n * k + n ≤ length bytes = ltb-false (length bytes) (n * k + n) f in
        rw (min-eq_left l, min-eq_left h, add-sub_cancel_left (n * k) n)

module _ (L k : ℕ) (page : List ℕ) where
  -- none does where L is outside its limits
  pub outside : one_to_64 L ≡ false → in_page L k page ≡ false
  unfolding in_page
  outside e = simp e

  -- nor where it ends beyond the page's end
  pub beyond : one_to_64 L ≡ true → length page / (byte_count one_bit L) ≤ k → in_page L k page ≡ false
  unfolding in_page
  beyond e h =
      let l : length page < byte_count one_bit L * suc k =
      omega (arith, part-beyond (byte_count one_bit L) k (length page) (omega (arith, one-to-64 L e, one_bit-bytes L)) h) in
      simp (e, lt-leb _ _ l)

  -- and then the part is empty
  pub strip-none : in_page L k page ≡ false → strip_of L k page ≡ []
  unfolding strip_of
  strip-none e = rw e

  -- the strip where it ends within the page
  pub strip-inside : one_to_64 L ≡ true → byte_count one_bit L * k + byte_count one_bit L ≤ length page
      → strip_of L k page ≡ part (byte_count one_bit L) k page
  unfolding strip_of in_page
  strip-inside e h = let l : byte_count one_bit L * suc k ≤ length page = omega arith in simp (e, le-leb _ _ l)

-- each of the S strips of a page lies in it
pub strip-there : (L S k : ℕ) (page : List ℕ) → one_to_64 L ≡ true → length page ≡ byte_count one_bit L * S → k < S
    → strip_of L k page ≡ part (byte_count one_bit L) k page
strip-there L S k page e p h = strip-inside L k page e (omega (arith, within (byte_count one_bit L) k S h))

-- PARTS STORED ONE BY ONE. Part j of a list is that of its front where it lies there
part-front : (w j : ℕ) (p q : List ℕ) → w * j + w ≤ length p → part w j (p ++ q) ≡ part w j p
unfolding part
part-front w j p q h =
    let a : w * j ≤ length p = omega arith in
    let b : w ≤ length (drop (w * j) p) = omega (arith, length-drop (w * j) p) in
    rw (drop-append-le (w * j) p q, take-append-le w (drop (w * j) p) q)

-- part k as the code lends it
pub lent : (L k : ℕ) (x : List ℕ) → take (L * k + L - L * k) (drop (L * k) x) ≡ part L k x
unfolding part
lent L k x = ap (λ (n : ℕ). take n (drop (L * k) x)) (add-sub_cancel_left (L * k) L)

-- has w places
pub lent_length : (w k : ℕ) (x : List ℕ) → w * k + w ≤ length x → length (take (w * k + w - w * k) (drop (w * k) x)) ≡ w
lent_length w k x h = rw (add-sub_cancel_left (w * k) w) (length-take-le w (drop (w * k) x) (omega (arith, length-drop (w * k) x)))

-- part k stored: the list is as long as it was
pub stored-length : (w k : ℕ) (x y : List ℕ) → w * k + w ≤ length x → length y ≡ w
    → length (take (w * k) x ++ (y ++ drop (w * k + w - w * k) (drop (w * k) x))) ≡ length x
stored-length w k x y h l = same_len_mid (w * k) (w * k + w - w * k) x y (l ∙ sym (lent_length w k x h))

-- part k stored: what holds of the parts before it, and of it, holds of the parts as a loop has them after turn k
pub part-more : (w k : ℕ) (x y : List ℕ) (P : ℕ → List ℕ → Type 0) → w * k + w ≤ length x → length y ≡ w → P k y
    → ((j : ℕ) → j < k → P j (part w j x))
    → (j : ℕ) → j < k + 1 → P j (part w j (take (w * k) x ++ (y ++ drop (w * k + w - w * k) (drop (w * k) x))))
unfolding part
part-more w k x y P h l e p = below_more (λ (j : ℕ). P j (part w j (take (w * k) x ++ (y ++ rest)))) k before (subst⁻¹ (P k) here e)
  where
    rest : List ℕ
    rest = drop (w * k + w - w * k) (drop (w * k) x)

    front : length (take (w * k) x) ≡ w * k
    front = length-take-le (w * k) x (let z : w * k ≤ length x = omega arith in z)

    same : (j : ℕ) → j < k → part w j (take (w * k) x ++ (y ++ rest)) ≡ part w j x
    same j m =
        let z : w * j + w ≤ length (take (w * k) x) = omega (arith, front, within w j k m) in
        part-front w j (take (w * k) x) (y ++ rest) z ∙ sym (part-front w j (take (w * k) x) (drop (w * k) x) z)
        ∙ ap (part w j) (take-append-drop (w * k) x)

    before : (j : ℕ) → j < k → P j (part w j (take (w * k) x ++ (y ++ rest)))
    before j m = subst⁻¹ (P j) (same j m) (p j m)

    here : part w k (take (w * k) x ++ (y ++ rest)) ≡ y
    here = rw (drop_at (take (w * k) x) (y ++ rest) (w * k) front) (take_at y rest w l)

-- IN ORDER. A page and data of these lengths
pub sized-by : (L S : ℕ) (page content : List ℕ) → Measured none L S (length page) (length content) → Sized one_bit L S page content
sized-by L S page content m =
    record { bytes_in = m.bytes_in; strips_in = m.strips_in; page_is = m.page_is; data_is = m.data_is }

-- a page and a list of datas of these lengths
pub listed_by : (L S count : ℕ) (page content : List ℕ) → one_to_64 count ≡ true → Measured (some count) L S (length page) (length content)
    → Listed one_bit L S count page content
listed_by L S count page content n m =
    record { bytes_in = m.bytes_in; strips_in = m.strips_in; page_is = m.page_is; count_in = n; datas_are = m.data_is }

-- the datas of a list are so many parts of L·S bytes
pub datas-length : (count L S : ℕ) {size : ℕ} → size ≡ count * (L * S) → size ≡ L * S * count
datas-length count L S e = e ∙ mul_comm count (L * S)
