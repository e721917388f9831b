-- What carrying out the digits of a strip does.
pub mod Carrying
