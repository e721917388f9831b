-- END THEOREMS, which no function needs: the ledger, lists as single writes, older releases, and what a map does.
pub mod Ledger
pub mod Singles
pub mod Orders
pub mod Marks
