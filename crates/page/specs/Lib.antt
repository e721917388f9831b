-- The map that a call is given.
pub mod Maps
