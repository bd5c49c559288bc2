pub mod Marking
pub mod Lists
pub mod Runs
