-- The paper's table of known cases, and runs of writes.
pub mod Known
