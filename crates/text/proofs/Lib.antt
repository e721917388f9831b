-- The laws of the text: numbers in decimal, lines 1 to 3, data in hexadecimal.
pub mod Text
pub mod Lines
pub mod Hex
pub mod Fronts
