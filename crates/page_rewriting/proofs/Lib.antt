-- The laws of the loops over a page's strips: the running total, plans, and one turn of each loop.
pub mod Totals
pub mod Plans
pub mod Loops
