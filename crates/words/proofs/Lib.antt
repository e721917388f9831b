-- The laws of an answer's one number.
pub mod Words
