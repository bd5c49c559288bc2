pub mod Pairs
pub mod Raised
pub mod Repaired
pub mod Settling
