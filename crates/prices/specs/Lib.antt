-- The table of prices.
pub mod Prices
