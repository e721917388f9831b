-- The laws of the row of a write.
pub mod Rows
