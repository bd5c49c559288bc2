pub mod Applying
pub mod Counting
pub mod Finding
pub mod Knowing
pub mod Names
pub mod Replacing
pub mod Rows
pub mod Ends
