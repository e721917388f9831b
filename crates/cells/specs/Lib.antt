-- What the crate `cells` promises is stated by these definitions, in this order.
pub mod Places
pub mod Bytes
pub mod Levels
pub mod Raising
pub mod Marks
pub mod Climbs
