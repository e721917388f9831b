-- The census of a page.
pub mod Counting
