-- The one number that an answer is to C.
pub mod Words
