-- The laws of the table of prices, and of numbers stored one after the other.
pub mod Stores
pub mod Prices
