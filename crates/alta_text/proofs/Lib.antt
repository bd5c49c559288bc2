pub mod Foldings
pub mod Found
