-- What a pick stands for.
pub mod Picks
