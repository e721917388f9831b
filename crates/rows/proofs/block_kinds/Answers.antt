-- In each arm the cells are those of the block's bits and marks; its bits are 48.
use mathlib.Core.Path.{◌≡◌, sym, ◌∙◌, ap₂}
use mathlib.Core.List.{List}
use Prim.Native.Nat.{ℕ, ◌+◌, ◌*◌}
use native.Mathlib.Omega.{arith}
use lib.ListN.{length, get_or-eq_default}
use borrow.Author.Rules.{rules}
use Rattle.rows.specs.Rows.{cell_kind, marks_at, packed_of}
use Rattle.rows.proofs.Quotes.{bits-less}
use Rattle.rows.proofs.block_kinds.Goals as goal
use Rattle.rows.proofs.block_kinds.Goals.{then-is_empty, else-is_empty}

-- a map with no byte marks nothing
none_marked : (map : List ℕ) (q : ℕ) → length map ≡ 0 → 0 ≡ marks_at map q
unfolding marks_at
none_marked map q e =
    omega (arith, get_or-eq_default map 0 {n = 2 * q} (omega arith), get_or-eq_default map 0 {n = 2 * q + 1} (omega arith))

pub levels_of-requires : goal.levels_of-requires
levels_of-requires c = rw c.bits_of-bits.ensures (bits-less c.args.strip.now (λ i. omega (arith, c.type_inv.strip i)) c.args.q)

pub kinds_of-requires : goal.kinds_of-requires
kinds_of-requires c = rw c.bits_of-bits.ensures (bits-less c.args.strip.now (λ i. omega (arith, c.type_inv.strip i)) c.args.q)

pub returns-then-marks-eq0 : goal.returns-then-marks-eq0
returns-then-marks-eq0 c =
    let marks : c.if-is_empty.marks ≡ marks_at c.args.map.now c.args.q = elim c.if-is_empty.branch [
      | then-is_empty w ↦ w.marks-is ∙ none_marked c.args.map.now c.args.q (search rules)
      | else-is_empty w ↦ w.marks-is ∙ search rules
    ] in
    c.levels_of.ensures.value ∙ ap₂ (λ bits marks. packed_of 3 (cell_kind bits marks) 16) c.bits_of-bits.ensures (sym c.if-marks-eq0.true ∙ marks)
