-- The laws of a call, as the program makes it.
pub mod Calls
