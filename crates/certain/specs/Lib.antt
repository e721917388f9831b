-- How many writes are certain after an erase (`Certain`), how often data bit 0 of a strip can change between erases (`Changes`), and how
-- many puts into a block are certain (`Puts`).
pub mod Certain
pub mod Changes
pub mod Puts
