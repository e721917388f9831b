-- The laws of the parts of a block that are lent.
pub mod Lent
