-- What the calls promise is stated by these definitions, in this order.
pub mod Writes
pub mod Promise
pub mod Lists
pub mod Families
pub mod Band
