-- The laws of eight stages (`Runs`), what their numbers decode to (`Costs`), and that the marked search is the plain one (`Trails`).
pub mod Runs
pub mod Costs
pub mod Trails
