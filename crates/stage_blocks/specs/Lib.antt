-- What the program computes on a block of eight stages.
pub mod Blocks
