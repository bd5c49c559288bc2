pub mod AnyUse
pub mod Counting
pub mod Documents
pub mod FewUses
pub mod Keeping
pub mod Passed
mod Rows
pub mod Scores
