-- The laws of the promises: that they are kept, what a write cannot do, the bounds, lists of writes, and a choice among writes.
pub mod Promise
pub mod Plans
pub mod Bounds
pub mod Lists
pub mod Families
pub mod Band
