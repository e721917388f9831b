-- The bytes of a line so far, in a buffer that may be too short for them.
--   kept_copied   bytes of the input after those before them, as many as there is room for
use mathlib.Core.Path.{◌≡◌, sym, ◌∙◌, ap}
use mathlib.Core.List.{List, ◌++◌}
use Prim.Native.Nat.{ℕ, ◌+◌, ◌-◌, ◌≤◌, min}
use native.Mathlib.Omega.{arith}
use lib.ListN.{length, take, length-append, length-take, length-drop}
use lib.Seq.{length-take-le, take-take, take-append-add}
use Rattle.std.proofs.lemmas.List.{take_min}
use borrow.Rule.Slice.PartMut.{put_mid}
use Rattle.std.proofs.lemmas.Slice.{take-put_mid, drop-put_mid}
use Rattle.script.specs.Buffers.{KeptPart}

-- BYTES OF THE INPUT after those before them: `kept` of them, as many as there are up to `end` and as there is room for
module _ (line bytes part : List ℕ) (used end kept : ℕ) (h : used ≤ length line) (g : end ≤ length bytes)
    (e : kept ≡ min end (length line - used)) (p : part ≡ take kept bytes) where
  -- of the bytes of a line so far as many as the buffer has
  cut : take (length line) (take used line ++ take end bytes) ≡ take used line ++ take kept bytes
  cut =
      let room = length line - used in
      let n : length (take used line) + room ≡ length line = omega (arith, length-take-le used line h) in
      let m : min room end ≡ kept = omega arith in
      rw n at (take-append-add (take used line) (take end bytes) room)
      ∙ ap (λ (l : List ℕ). take used line ++ l)
      (sym (take_min room (take end bytes)) ∙ rw (length-take-le end bytes g, m) (take-take kept end bytes (omega arith)))

  pub kept_copied : KeptPart (take used line ++ take end bytes) line (used + kept) (put_mid used (used + kept - used) line part)
  kept_copied =
      let n : used + kept - used ≡ kept = omega arith in
      let l : length part ≡ kept = ap length p ∙ length-take-le kept bytes (omega arith) in
      let size : length (put_mid used kept line part) ≡ length line =
      simp (length-append, length-take, length-drop) (omega arith) in
      record {
        size = rw n size;
        inside = rw (n, size) (omega arith);
        part_is = rw n (take-put_mid used kept line part (used + kept) (omega arith) h ∙ rw p (sym cut));
        others = rw n (drop-put_mid used kept line part (used + kept) (omega arith) h l);
      }
