pub mod Holding
pub mod Packed
pub mod Runs
