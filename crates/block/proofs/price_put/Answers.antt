-- Both parts that are lent are in order, so their prices are the offers of the put's two writes.
use native.Mathlib.Omega.{arith}
use lib.Seq.{length-take-le}
use Rattle.block_promises.proofs.Parts.{put-fits}
use Rattle.block.proofs.Puts.{within-limits, has-directory, number-fits, ends-within, not-offered, no-directory, both-offered}
use Rattle.block.proofs.price_put.Goals as goal

pub overflow_cast-number : goal.overflow_cast-number
overflow_cast-number c = record { fits = number-fits c.args.code c.args.bytes c.args.strips c.args.pages c.args.block.now c.args.data.now c.requires.data_value c.requires.k_lt_pages }

pub slice_bounds-price-end : goal.slice_bounds-price-end
slice_bounds-price-end c = omega (arith, length-take-le 6 c.args.block.now (has-directory c.args.code c.args.bytes c.args.strips c.args.pages c.args.block.now c.args.data.now c.requires.data_value))

pub returns-in_default : goal.returns-in_default
returns-in_default c =
    no-directory c.args.code c.args.bytes c.args.strips c.args.pages c.args.block.now c.args.data.now (put-fits c.args.code c.args.bytes c.args.strips c.args.pages c.args.block.now c.args.data.now (record { below = λ q h. omega (arith, c.type_inv.data q) }) c.requires.data_value) c.args.k c.requires.k_lt_pages
    c.price-of_directory.ensures.value (not-offered _ c.in_default.not-Done)

pub page_start-a-requires : goal.page_start-a-requires
page_start-a-requires c = within-limits c.args.code c.args.bytes c.args.strips c.args.pages c.args.block.now c.args.data.now c.requires.data_value

pub page_size-n-requires : goal.page_size-n-requires
page_size-n-requires c = within-limits c.args.code c.args.bytes c.args.strips c.args.pages c.args.block.now c.args.data.now c.requires.data_value

pub overflow_add-a : goal.overflow_add-a
overflow_add-a c = omega (arith, ends-within c.args.code c.args.bytes c.args.strips c.args.pages c.args.block.now c.args.data.now c.requires.data_value c.requires.k_lt_pages c.page_start-a.ensures c.page_size-n.ensures)

pub slice_bounds-price-end-3 : goal.slice_bounds-price-end-3
slice_bounds-price-end-3 c = omega (arith, ends-within c.args.code c.args.bytes c.args.strips c.args.pages c.args.block.now c.args.data.now c.requires.data_value c.requires.k_lt_pages c.page_start-a.ensures c.page_size-n.ensures)

pub returns : goal.returns
returns c =
    both-offered c.args.code c.args.bytes c.args.strips c.args.pages c.args.block.now c.args.data.now (put-fits c.args.code c.args.bytes c.args.strips c.args.pages c.args.block.now c.args.data.now (record { below = λ q h. omega (arith, c.type_inv.data q) }) c.requires.data_value) c.args.k c.requires.k_lt_pages
    c.price-of_directory.ensures.value c.in-Done.is c.page_start-a.ensures c.page_size-n.ensures
    c.price-of_page.ensures.value c.with_directory.ensures
