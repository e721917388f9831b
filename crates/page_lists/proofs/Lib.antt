-- The laws of the loop over a list's datas.
pub mod Turns
