-- The shape of a page, its strips and their parts.
pub mod Shape
