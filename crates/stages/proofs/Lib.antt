-- The laws of one stage (`Stages`), and of sums of the numbers that decode to optional costs (`Sums`).
pub mod Stages
pub mod Sums
