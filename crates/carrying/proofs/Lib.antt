-- The laws of carrying out: what a block shows, and the strip after one block more.
pub mod Shown
pub mod Carried
