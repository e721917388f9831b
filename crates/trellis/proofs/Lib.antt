-- The laws of the search of a strip: what the states keep of their ways, the digits that are followed, and the write that they make.
pub mod Ways
pub mod Followed
pub mod Plans
