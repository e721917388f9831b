-- What an answer is in the paper's numbers (`Answers`), and the running total of a page (`Totals`).
pub mod Answers
pub mod Totals
