-- The text that the run program reads and prints: `Text` has the text of numbers, values and rows, `Lines` what lines 1 to 3 say, `Hex`
-- what a data line says.
pub mod Text
pub mod Lines
pub mod Hex
