-- What the run program does with its input is stated by these definitions: `Runs` has the whole run, `Positions` the run between two bytes
-- of its input, `Buffers` where the program has it.
pub mod Runs
pub mod Positions
pub mod Buffers
