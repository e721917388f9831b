-- When a call is refused, and what a call that cannot be spent answers.
pub mod Refusals
