-- The two tests are those of the definition, of the bits from `start` on.
use mathlib.Core.Path.{◌≡◌, sym, ◌∙◌}
use mathlib.Core.List.{List}
use Prim.Native.Nat.{ℕ, ◌+◌, ◌*◌, ◌%◌, ◌<◌}
use native.Mathlib.Omega.{arith}
use lib.ListN.{get_or}
use Rattle.cells.specs.Bytes.{bit_of}
use Rattle.cells.specs.Raising.{triple}
use Rattle.cells.proofs.Raising.{triple-bit, zero_from-first, zero_from-second, zero_from-third}
use Rattle.cells.proofs.zero_from.Goals as goal

-- a bit of the cell by what `bit` answered
told : (bytes : List ℕ) (cell i : ℕ) → i < 3 → {r : ℕ} → r ≡ bit_of bytes (3 * cell + i) → get_or (triple bytes cell) i 0 ≡ r
told bytes cell i h e = triple-bit bytes cell i h ∙ sym e

-- the first of them, whose number is its own remainder
told_first : (bytes : List ℕ) (cell i : ℕ) → i < 3 → {r : ℕ} → r ≡ bit_of bytes (3 * cell + i) → get_or (triple bytes cell) (i % 3) 0 ≡ r
told_first bytes cell i h e = let m : i % 3 ≡ i = omega arith in rw m (told bytes cell i h e)

pub returns-then-bit-eq0 : goal.returns-then-bit-eq0
returns-then-bit-eq0 c =
    let first = told_first c.args.bytes.now c.args.cell c.args.start (omega arith) c.bit.ensures in
    omega (arith, zero_from-first c.args.start (triple c.args.bytes.now c.args.cell) (first ∙ c.if-bit-eq0.true))

pub returns-then-bit-eq0-2 : goal.returns-then-bit-eq0-2
returns-then-bit-eq0-2 c =
    let first = told_first c.args.bytes.now c.args.cell c.args.start (omega arith) c.bit.ensures in
    let second = told c.args.bytes.now c.args.cell ((c.args.start + 1) % 3) (omega arith) c.bit-else-bit-eq0.ensures in
    omega (arith, zero_from-second c.args.start (triple c.args.bytes.now c.args.cell) (λ e. c.if-bit-eq0.false (sym first ∙ e)) (second ∙ c.if-bit-eq0-2.true))

pub returns-else-bit-eq0-2 : goal.returns-else-bit-eq0-2
returns-else-bit-eq0-2 c =
    let first = told_first c.args.bytes.now c.args.cell c.args.start (omega arith) c.bit.ensures in
    let second = told c.args.bytes.now c.args.cell ((c.args.start + 1) % 3) (omega arith) c.bit-else-bit-eq0.ensures in
    omega (
      arith,
      zero_from-third c.args.start (triple c.args.bytes.now c.args.cell) (λ e. c.if-bit-eq0.false (sym first ∙ e))
          (λ e. c.if-bit-eq0-2.false (sym second ∙ e)),
    )
