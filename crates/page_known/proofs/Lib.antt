-- The table and the runs hold.
pub mod Known
