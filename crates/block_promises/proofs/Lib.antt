-- The laws of a block: its parts, a put to one of its pages, and what a put promises.
pub mod Windows
pub mod Parts
pub mod Written
pub mod Block
