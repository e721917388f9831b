-- The laws of the census.
pub mod Counts
