-- What the program of the search computes on numbers: one stage (`Stage`), and what such a number decodes to (`Costs`, `Trails`).
pub mod Stage
pub mod Costs
pub mod Trails
