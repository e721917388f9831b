-- A block of pages: its parts, what a put picks and promises, and what a get reads.
pub mod Block
