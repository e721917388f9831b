-- The laws of the grounds.
pub mod Refusals
