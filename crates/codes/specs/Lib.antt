-- What the crate `codes` promises is stated by `Generators`, `Layouts`, `Reading`, `Taps`, `Codes` and `Blocks`; the others are the algebra
-- behind the search.
pub mod Generators
pub mod Layouts
pub mod Reading
pub mod Taps
pub mod Codes
pub mod Sequences
pub mod Registers
pub mod Numbers
pub mod Encoders
pub mod Coset
pub mod Blocks
