-- The laws of the values of a band, as the program tries them.
pub mod Values
