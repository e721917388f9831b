use mathlib.Core.Path.{◌≡◌, refl, sym, ◌∙◌, ap}
use mathlib.Core.List.{List}
use Prim.Native.Nat.{ℕ, ◌≤◌, ◌<◌, ◌+◌, ◌*◌}
use native.Mathlib.Omega.{arith}
use lib.ListN.{length, get_or}
use borrow.Author.Rules.{rules}
use Rattle.cells.specs.Raising.{start_of, raised_to}
use Rattle.cells.proofs.Raising.{raised_to-length}
use Rattle.codes.specs.Generators.{Generators}
use Rattle.codes.specs.Codes.{generators_of}
use Rattle.codes.specs.Taps.{window_of}
use Rattle.codes.proofs.Codes.{proper, memory-bounds}
use Rattle.codes.proofs.Layouts.{one_bit-bytes}
use Rattle.rows.specs.Rows.{bits_at}
use Rattle.carrying.specs.Carrying.{digit_in, with_bits, CarryRequires}
use Rattle.rows.proofs.Quotes.{bits-less}
use Rattle.rows.proofs.Labels.{labels-forth}
use Rattle.carrying.proofs.Carried.{carried_below, carried_none, left-bits, carried-block, carried-all, digits-window, block-first}
use Rattle.carrying.proofs.Carried.{block-second}
use Rattle.carrying.proofs.Shown.{wanted-cells}
use Rattle.carrying.proofs.carry_strip.Goals as goal

-- Block q, where the blocks before it are carried out
module _ (G : Generators) (strip content digits : List ℕ) (r : CarryRequires strip content digits) (q : ℕ) (inside : q < length digits) {now : List ℕ}
    (e : now ≡ raised_to start_of strip (carried_below G strip content (digit_in digits) (16 * q))) where
  -- lies in the strip
  block-inside : (6 * q + 6 ≤ length now) × (q < 64)
  block-inside =
      let size : length now ≡ 6 * length content = ap length e ∙ raised_to-length start_of strip _ ∙ r.size ∙ one_bit-bytes (length content) in
      (omega (arith, size, inside, r.digits_are), omega (arith, inside, r.digits_are, r.most))

  -- and has its bits as they were
  bits-before : ((i : ℕ) → get_or strip i 0 < 256) → bits_at now q ≡ bits_at strip q
  bits-before bytes =
      ap (λ (x : List ℕ). bits_at x q) e
      ∙ left-bits G strip content (digit_in digits) q (omega (arith, r.size, one_bit-bytes (length content), inside, r.digits_are)) bytes

pub loop-q-init : goal.loop-q-init
unfolding window_of
loop-q-init c = (omega arith, refl, omega arith, refl, carried_none (generators_of c.args.code) c.args.strip.now c.args.data.now _ (λ i. search rules))

pub bits_of-requires : goal.bits_of-requires
bits_of-requires c = block-inside _ _ c.args.data.now c.args.digits.now c.requires c.loop-q.q c.loop-q-test.true c.loop-q.invariant.4

pub shown_bits-bits-requires : goal.shown_bits-bits-requires
shown_bits-bits-requires c =
    let octets : (i : ℕ) → get_or c.args.strip.now i 0 < 256 = λ i. search rules in
    let bits = c.bits_of.ensures ∙ bits-before _ _ c.args.data.now c.args.digits.now c.requires c.loop-q.q c.loop-q-test.true c.loop-q.invariant.4 octets in
    (rw bits (bits-less _ octets c.loop-q.q), rw c.wanted_bits.ensures (wanted-cells _ _))

pub put_bits-requires : goal.put_bits-requires
put_bits-requires c = block-inside _ _ c.args.data.now c.args.digits.now c.requires c.loop-q.q c.loop-q-test.true c.loop-q.invariant.4

pub loop-q-preserved : goal.loop-q-preserved
loop-q-preserved c =
    let octets : (i : ℕ) → get_or c.args.strip.now i 0 < 256 = λ i. search rules in
    let same_bits = bits-before _ _ c.args.data.now c.args.digits.now c.requires c.loop-q.q c.loop-q-test.true c.loop-q.invariant.4 octets in
    let G = generators_of c.args.code in
    let reach = (memory-bounds c.args.code.name).1 in
    let byte : get_or c.args.digits.now c.loop-q.q 0 < 256 = omega (arith, c.type_inv.digits c.loop-q.q) in
    let labels = labels-forth (proper c.args.code) reach c.args.data.now c.loop-q.q c.loop-q.invariant.1 c.data_window.ensures.0
    c.divide-labels.ensures.by_index in
    let wants = block-first G reach c.args.data.now c.args.digits.now c.loop-q.q byte c.loop-q.invariant.3 refl _ c.first_bits-first.ensures.by_index in
    let wants-second = block-second G reach c.args.data.now c.args.digits.now c.loop-q.q byte c.loop-q.invariant.3 refl _
    c.second_bits.ensures.by_index labels in
    let shows = rw (c.bits_of.ensures ∙ same_bits, c.wanted_bits.ensures) at c.shown_bits-bits.ensures in (
      c.divide-labels.ensures.upper_bound,
      labels,
      byte,
      sym (digits-window c.args.digits.now c.loop-q.q byte),
      c.put_bits.ensures ∙ ap (λ (x : List ℕ). with_bits x c.loop-q.q c.shown_bits-bits.result) c.loop-q.invariant.4
          ∙ carried-block G c.args.strip.now c.args.data.now (digit_in c.args.digits.now) c.loop-q.q _ _ c.shown_bits-bits.result shows
          octets wants wants-second (length c.args.data.now) (c.requires.size ∙ one_bit-bytes (length c.args.data.now))
          (omega (arith, c.requires.digits_are, c.loop-q-test.true)),
    )

pub returns : goal.returns
returns c =
    let n : ℕ = length c.args.data.now in
    let e : c.loop-q.q ≡ n = omega (arith, c.requires.digits_are) in
    let size = c.requires.size ∙ one_bit-bytes n in
    c.loop-q.invariant.4 ∙ ap (λ (q : ℕ). raised_to start_of c.args.strip.now (carried_below (generators_of c.args.code) c.args.strip.now c.args.data.now
    (digit_in c.args.digits.now) (16 * q))) e
    ∙ carried-all (generators_of c.args.code) c.args.strip.now c.args.data.now (digit_in c.args.digits.now) (16 * n) (omega arith)
