-- What each line of the run program's input does: the turn of a line (`Turns`), and the page in its buffer (`Buffers`).
pub mod Turns
pub mod Buffers
