-- THE PARTS OF A BLOCK: the cells and the bytes of its directory and of its pages.
--   Fit, put-fits                       a put that fits; one without a ground does
--   differs?                            whether two levels differ somewhere
--   free-climb                          a climb that costs nothing is none
--   level-directory, level-page         the cells of the directory and of a page are cells of the block
--   directory-length, page-length-in    their bytes
--   block-cell                          the cells of a block of the right length are those of its parts
--   directory-ground, page-ground       so neither write of a put that fits has a ground
use mathlib.Core.Path.{◌≡◌, refl, sym, ◌∙◌, ap}
use mathlib.Core.List.{List, [], ◌∷◌}
use mathlib.Core.Logic.{◌⊎◌, inl, inr, ⊎_elim}
use mathlib.Core.Option.{none}
use Prim.Native.Nat.{ℕ, zero, suc, ◌<◌, ◌≤◌, ◌+◌, ◌*◌}
use native.Mathlib.Omega.{arith}
use native.Mathlib.Nat.{mul_assoc}
use lib.ListN.{length, drop, length-drop}
use lib.Seq.{length-take-le}
use Rattle.cells.specs.Bytes.{Octets}
use Rattle.cells.specs.Levels.{level}
use Rattle.cells.specs.Climbs.{house, weight_of, climb}
use Rattle.cells.proofs.Places.{same?}
use Rattle.cells.proofs.Bytes.{one-octet}
use Rattle.cells.proofs.Climbs.{climb-rises}
use Rattle.cells.proofs.Parts.{within}
use Rattle.codes.proofs.Layouts.{one_bit-bytes}
use Rattle.demand.specs.Jobs.{InOrder}
use Rattle.refusals.specs.Refusals.{one_to_64, is_code, code_ground, bytes_ground, strips_ground, limits_ground, sizes_ground, free_step}
use Rattle.refusals.specs.Refusals.{weights_ground, directory_code, directory_bytes, directory_strips, page_bytes}
use Rattle.refusals.proofs.Refusals.{none-applies, PutFits, put-in-order}
use Rattle.page_promises.specs.Writes.{ground_with}
use Rattle.page_promises.proofs.Promise.{job-in-order}
use Rattle.block_promises.specs.Block.{directory_of, page_in, page_cell_count, block_cells, directory_job, page_job}
use Rattle.block_promises.specs.Block.{ground_of_put}
use Rattle.block_promises.proofs.Windows.{house-dear, cells_fill, window-level}

-- A PUT THAT FITS: its lengths are right, and its data is bytes
pub record Fit (code L S P : ℕ) (block content : List ℕ) : Type 0 where
  pub fits : PutFits code L S P (length block) (length content)
  pub octets : Octets content

-- one without a ground does
pub put-fits : (code L S P : ℕ) (block content : List ℕ) → Octets content → ground_of_put code L S P block content ≡ none
    → Fit code L S P block content
put-fits code L S P block content b e = record { fits = put-in-order code L S P (length block) (length content) e; octets = b }

-- two levels lists that differ, or not
pub differs? : (n : ℕ) (x y : ℕ → ℕ) → ((c : ℕ) × (c < n) × (x c ≡ y c → ⊥)) ⊎ ((c : ℕ) → c < n → x c ≡ y c)
differs? zero x y = inr (λ c h. absurd (let z : ⊥ = omega arith in z))
differs? (suc n) x y =
    ⊎_elim
    (λ d. inl (d.0, omega (arith, d.1), d.2))
    (λ e. ⊎_elim
    (λ s. inr (λ c h. ⊎_elim (λ q. rw q s) (λ d. e c (omega arith)) (same? c n)))
    (λ d. inl (n, omega arith, d)) (same? (x n) (y n)))
    (differs? n x y)

-- so a climb that costs nothing is none
pub free-climb : (a b : ℕ) → a ≤ b → b ≤ 3 → climb (weight_of house) a b ≡ 0 → a ≡ b
free-climb a b h k e =
    ⊎_elim (λ s. s)
    (λ d. absurd (let z : ⊥ = omega (arith, climb-rises (weight_of house) 3 house-dear a a b (omega arith) (omega arith) k) in z))
    (same? a b)

module _ (L S : ℕ) where
  -- and those before page i fill the bytes before it
  fill-before : (i : ℕ) → 3 * (page_cell_count L S * i) ≡ 8 * (page_bytes L S * i)
  fill-before i = sym (mul_assoc 3 (page_cell_count L S) i) ∙ ap (λ (x : ℕ). x * i) (cells_fill L S) ∙ mul_assoc 8 (page_bytes L S) i

  -- THE CELLS of the directory and of page i
  pub level-directory : (x : List ℕ) (c : ℕ) → c < 16 → level (directory_of x) c ≡ level x c
  level-directory x c h = window-level 0 6 0 x refl c (omega arith) ∙ ap (level x) (omega arith)

  pub level-page : (i : ℕ) (x : List ℕ) (c : ℕ) → c < page_cell_count L S
      → level (page_in L S i x) c ≡ level x (16 + (page_cell_count L S * i + c))
  level-page i x c h =
      window-level (6 + page_bytes L S * i) (page_bytes L S) (16 + page_cell_count L S * i) x (omega (arith, fill-before i)) c
      (omega (arith, cells_fill L S))
      ∙ ap (level x) (omega arith)

  -- and no other cells are in a block of the right length
  pub block-cell : (P : ℕ) (x : List ℕ) → length x ≡ 6 + page_bytes L S * P → (c : ℕ) → 3 * c < 8 * length x → c < block_cells L S P
  block-cell P x e c h = omega (arith, fill-before P)

  -- THE LENGTHS
  pub directory-length : (P : ℕ) (x : List ℕ) → length x ≡ 6 + page_bytes L S * P → length (directory_of x) ≡ 6
  directory-length P x e = length-take-le 6 (drop 0 x) (omega (arith, length-drop 0 x))

  pub page-length-in : (P i : ℕ) (x : List ℕ) → length x ≡ 6 + page_bytes L S * P → i < P → length (page_in L S i x) ≡ page_bytes L S
  page-length-in P i x e h =
      length-take-le (page_bytes L S) (drop (6 + page_bytes L S * i) x)
      (omega (arith, length-drop (6 + page_bytes L S * i) x, within (page_bytes L S) i P h))

-- THE TWO WRITES of a put that fits have no ground
module _ (code L S P : ℕ) (block content : List ℕ) (F : Fit code L S P block content) (i : ℕ) (inside : i < P) where
  pub directory-ground : ground_with none house directory_code directory_bytes directory_strips (directory_of block) (i ∷ []) ≡ none
  unfolding sizes_ground code_ground is_code limits_ground bytes_ground strips_ground one_to_64 weights_ground free_step weight_of
  directory-ground =
      none-applies none none house directory_code directory_bytes directory_strips (length (directory_of block)) 1 refl refl refl refl
      (directory-length L S P block F.fits.block-is ∙ omega (arith, one_bit-bytes 1)) refl

  pub page-ground : ground_with none house code L S (page_in L S i block) content ≡ none
  unfolding weights_ground free_step weight_of
  page-ground =
      none-applies none none house code L S (length (page_in L S i block)) (length content) F.fits.sizes refl refl refl
      (page-length-in L S P i block F.fits.block-is inside) F.fits.data_is

  -- so both are in order
  pub directory-in-order : InOrder (directory_job block i)
  directory-in-order =
      job-in-order none house directory_code directory_bytes directory_strips (directory_of block) (i ∷ [])
      (one-octet i (omega (arith, F.fits.few)))
      directory-ground

  pub page-in-order : InOrder (page_job code L S block content i)
  page-in-order = job-in-order none house code L S (page_in L S i block) content F.octets page-ground
