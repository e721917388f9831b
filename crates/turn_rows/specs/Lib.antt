-- The row of a write.
pub mod Rows
