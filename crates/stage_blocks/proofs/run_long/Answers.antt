use mathlib.Core.Path.{refl, sym, subst}
use Prim.Native.Nat.{ℕ, ◌-◌, ◌*◌, ◌≤◌, ◌<◌}
use mathlib.Core.List.{List}
use native.Mathlib.Omega.{arith}
use lib.Count.{ones, ones_in}
use lib.ListN.{get_or, get_or-eq_default}
use Rattle.cells.specs.Places.{list_of, from_bits}
use Rattle.codes.specs.Generators.{digit, long}
use Rattle.codes.specs.Taps.{taps_of, parity_of, word_of}
use Rattle.stages.specs.Stage.{words_of}
use Rattle.stage_blocks.specs.Blocks.{pick_at, block_of}
use Rattle.stage_blocks.proofs.Runs.{by_place, listed_le, word-le, run-most, run_more}
use Rattle.stage_blocks.proofs.run_long.Goals as goal

pub loop-i-init : goal.loop-i-init
unfolding block_of list_of word_of parity_of taps_of from_bits digit ones ones_in
loop-i-init c = (refl, c.requires.size, λ s h. refl)

pub stage-requires : goal.stage-requires
stage-requires c =
    let most = run-most 64 (words_of long) c.args.rows.now c.args.picks (λ k. get_or c.args.costs.now k 0) c.requires.rows_le c.requires.costs_le in
    let words = listed_le 64 (words_of long) 3 (λ k. word-le long (2 * k)) in
    record {
      size = c.loop-i.invariant.1;
      words_le = λ j. subst (λ (v : List ℕ). get_or v j 0 ≤ 3) (sym c.loop-i.invariant.0) (words j);
      costs_le = by_place 64 (λ j h. omega (arith, c.loop-i.invariant.2 j h, most (8 - c.loop-i.i) j (omega arith)))
          (λ j h. omega (arith, get_or-eq_default c.loop-i.costs 0 {n = j} (omega arith)));
      prices_le = λ j. omega (arith, c.marked-prices.ensures.by_index_2 j);
    }

pub loop-i-preserved : goal.loop-i-preserved
unfolding pick_at
loop-i-preserved c =
    let t : 0 < c.loop-i.i = c.loop-i-test.true in
    let staged = rw c.loop-i.invariant.0 at c.stage.ensures in (
      c.loop-i.invariant.0,
      staged.size,
      run_more long c.args.rows.now c.args.picks (λ k. get_or c.args.costs.now k 0) (8 - c.loop-i.i) (c.loop-i.i - 1) (omega arith)
          c.loop-i.invariant.2 c.marked-prices.ensures.by_index staged,
    )
