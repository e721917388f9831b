-- The laws of cells, in the order of the definitions.
pub mod Places
pub mod Bytes
pub mod Levels
pub mod Raising
pub mod Marks
pub mod Climbs
pub mod Parts
