-- The laws of the codes: the algebra of convolution, then what the paper's sums and the program's taps have to do with it.
pub mod Sequences
pub mod Registers
pub mod Coset
pub mod Generators
pub mod Reading
pub mod Layouts
pub mod Encoders
pub mod Numbers
pub mod Taps
pub mod Codes
pub mod Windows
pub mod Divisions
