-- The search: what a best solution is (`Best`), what a write of a strip is (`Strip`, `Levels`), the search that finds it (`Trellis`,
-- `Choices`, `Search`), the same from prices alone (`Plan`, `Plain`), and the write of a strip of bytes in a layout (`Layouts`).
pub mod Best
pub mod Strip
pub mod Within
pub mod Levels
pub mod Trellis
pub mod Search
pub mod Choices
pub mod Parity
pub mod Plan
pub mod Numbered
pub mod Plain
pub mod Table
pub mod OneBit
pub mod Layouts
