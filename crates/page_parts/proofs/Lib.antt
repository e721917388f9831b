-- The laws of the strips within a page.
pub mod Strips
