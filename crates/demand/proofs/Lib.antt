-- The laws of demand 3: parts of a page, its reading, its strips one after the other, its levels, what a write picks, what does not depend
-- on the weights, nor on the bits that are the ones, what marks do, and which of several writes is chosen.
pub mod Jobs
pub mod Reading
pub mod Strips
pub mod Levels
pub mod Demand
pub mod Weights
pub mod Orders
pub mod Marks
pub mod Within
pub mod Offers
