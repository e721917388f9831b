-- `Ledger` counts the raises of a page over any calls; `Marks` has the maps that laws ask for.
pub mod Ledger
pub mod Marks
