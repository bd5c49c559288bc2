pub mod Agreement
pub mod Answers
pub mod Calls
pub mod Clearing
pub mod Opening
pub mod Putting
pub mod Searched
