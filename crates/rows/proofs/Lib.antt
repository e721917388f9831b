-- The laws of the rows: packed digits, words of cells, the table of prices, and the labels of the data.
pub mod Digits
pub mod Cells
pub mod Words
pub mod Quotes
pub mod Labels
