-- The laws of the search, from best solutions to the strip.
pub mod Best
pub mod Trellis
pub mod Strip
pub mod Levels
pub mod Windows
pub mod Choices
pub mod Search
pub mod Parity
pub mod Plan
pub mod Numbered
pub mod Plain
pub mod OneBit
pub mod Table
pub mod Layouts
pub mod Within
