-- The law of the words; all of them are within 51 bits.
use mathlib.Core.Path.{◌≡◌}
use Prim.Native.Nat.{ℕ, ◌*◌, ◌^◌, ◌<◌}
use native.Mathlib.Omega.{arith}
use lib.Bits.{bit_and, bit_xor, and_le_r, or_lt, xor_lt}
use Rattle.rows.specs.Rows.{mark_in, cell_kind, packed_of}
use Rattle.rows.proofs.Words.{seconds, seconds-less, kinds-less, marks-less, kinds-packed}
use Rattle.rows.proofs.kinds_of.Goals as goal

-- the marks that are counted four times are 48 bits
turned-less : (bits marks : ℕ) {levels marked : ℕ} → levels ≡ packed_of 3 (cell_kind bits 0) 16 → marked ≡ packed_of 3 (mark_in marks) 16
    → bit_xor marked (bit_and (bit_and marked seconds) levels) < 2 ^ 48
turned-less bits marks {levels} {marked} e f =
    xor_lt 48 _ _ (marks-less marks f) (omega (arith, and_le_r (bit_and marked seconds) levels, kinds-less bits 0 e))

pub overflow_mul-result-2 : goal.overflow_mul-result-2
unfolding packed_of
overflow_mul-result-2 c =
    record { fits = omega (arith, turned-less c.args.bits c.args.marks c.levels_of-levels.ensures.value c.marked_cells-marked.ensures) }

pub overflow_add-result : goal.overflow_add-result
unfolding packed_of
overflow_add-result c =
    let turned = turned-less c.args.bits c.args.marks c.levels_of-levels.ensures.value c.marked_cells-marked.ensures in
    let levels : c.levels_of-levels.result < 2 ^ 50 = omega (arith, kinds-less c.args.bits 0 c.levels_of-levels.ensures.value) in
    let second : 3 * bit_and c.marked_cells-marked.result seconds < 2 ^ 50 =
    omega (arith, and_le_r c.marked_cells-marked.result seconds, seconds-less) in
    record { fits = omega (arith, or_lt 50 c.levels_of-levels.result (3 * bit_and c.marked_cells-marked.result seconds) levels second, turned) }

pub returns : goal.returns
unfolding packed_of
returns c =
    kinds-packed c.args.bits c.args.marks _ _ c.levels_of-levels.ensures.value c.marked_cells-marked.ensures
