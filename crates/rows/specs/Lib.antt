-- The stages of a strip (`Stages`) and the rows of their prices (`Rows`).
pub mod Stages
pub mod Rows
