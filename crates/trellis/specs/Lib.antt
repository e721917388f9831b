-- What the program of the search computes on a strip: what the states keep of their ways (`Ways`), what it says of a strip (`Outcomes`)
-- and the digits of a write (`Plans`).
pub mod Ways
pub mod Outcomes
pub mod Plans
