-- The laws of a line: what it does, and the page in its buffer.
pub mod Turns
pub mod Held
