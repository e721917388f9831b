-- The laws of the run: the paper's example, the form of what is printed, an input in parts, and what the program keeps of it.
pub mod Runs
pub mod Outputs
pub mod Positions
pub mod Kept
pub mod Steps
