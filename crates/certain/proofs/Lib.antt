-- The first three writes after an erase are certain (`Certain`), so is a list of three (`Lists`), also as C sees them (`Words`), and so are
-- writes in a band (`Band`); three is the most (`Most`); data bit 0 of a strip changes at most six times (`Changes`);
-- and the first four puts into a block are certain (`Puts`).
pub mod Certain
pub mod Lists
pub mod Words
pub mod Band
pub mod Most
pub mod Changes
pub mod Puts
