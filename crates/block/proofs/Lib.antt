-- The laws of a put, as the program makes it.
pub mod Puts
