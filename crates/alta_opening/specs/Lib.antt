pub mod Costs
pub mod Names
pub mod Reached
pub mod Rows
pub mod Steps
