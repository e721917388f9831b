-- The page is stored first; the directory before it is as it was, and takes its number.
use Prim.Native.Nat.{◌+◌, ◌-◌}
use native.Mathlib.Omega.{arith}
use borrow.Rule.Slice.PartMut.{put_mid, same_len_mid}
use lib.Seq.{length-take-le}
use Rattle.block_promises.proofs.Parts.{put-fits}
use Rattle.block.proofs.Puts.{within-limits, has-directory, number-fits, ends-within, both-written}
use Rattle.block.proofs.write_page.Goals as goal

pub page_start-a-requires : goal.page_start-a-requires
page_start-a-requires c = within-limits c.args.code c.args.bytes c.args.strips c.args.pages c.args.block.now c.args.data.now c.requires.data_value

pub page_size-n-requires : goal.page_size-n-requires
page_size-n-requires c = within-limits c.args.code c.args.bytes c.args.strips c.args.pages c.args.block.now c.args.data.now c.requires.data_value

pub overflow_add-a : goal.overflow_add-a
overflow_add-a c = omega (arith, ends-within c.args.code c.args.bytes c.args.strips c.args.pages c.args.block.now c.args.data.now c.requires.data_value c.requires.k_lt_pages c.page_start-a.ensures c.page_size-n.ensures)

pub slice_bounds-write-end : goal.slice_bounds-write-end
slice_bounds-write-end c = omega (arith, ends-within c.args.code c.args.bytes c.args.strips c.args.pages c.args.block.now c.args.data.now c.requires.data_value c.requires.k_lt_pages c.page_start-a.ensures c.page_size-n.ensures)

pub overflow_cast-number : goal.overflow_cast-number
overflow_cast-number c = record { fits = number-fits c.args.code c.args.bytes c.args.strips c.args.pages c.args.block.now c.args.data.now c.requires.data_value c.requires.k_lt_pages }

pub slice_bounds-write-end-2 : goal.slice_bounds-write-end-2
slice_bounds-write-end-2 c = omega (
  arith,
  has-directory c.args.code c.args.bytes c.args.strips c.args.pages c.args.block.now c.args.data.now c.requires.data_value,
  same_len_mid c.page_start-a.result (c.page_start-a.result + c.page_size-n.result - c.page_start-a.result) c.args.block.now c.write.new.page
      c.write.auto.page,
)

pub slice_bounds-write-end-3 : goal.slice_bounds-write-end-3
slice_bounds-write-end-3 c = omega (
  arith,
  length-take-le 6 (put_mid c.page_start-a.result (c.page_start-a.result + c.page_size-n.result - c.page_start-a.result) c.args.block.now c.write.new.page)
      (omega (
        arith,
        has-directory c.args.code c.args.bytes c.args.strips c.args.pages c.args.block.now c.args.data.now c.requires.data_value,
        same_len_mid c.page_start-a.result (c.page_start-a.result + c.page_size-n.result - c.page_start-a.result) c.args.block.now c.write.new.page
            c.write.auto.page,
      )),
)

pub returns : goal.returns
returns c =
    both-written c.args.code c.args.bytes c.args.strips c.args.pages c.args.block.now c.args.data.now (put-fits c.args.code c.args.bytes c.args.strips c.args.pages c.args.block.now c.args.data.now (record { below = λ q h. omega (arith, c.type_inv.data q) }) c.requires.data_value) c.args.k c.requires.k_lt_pages
    c.page_start-a.ensures c.page_size-n.ensures c.write.ensures.page_after c.write-2.ensures.page_after
