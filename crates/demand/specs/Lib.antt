-- What a write is asked (`Jobs`), what a page reads as (`Reading`), which page it picks (`Demand`), how that page is computed (`Computed`),
-- and which of several is chosen (`Offers`).
pub mod Jobs
pub mod Reading
pub mod Demand
pub mod Computed
pub mod Offers
