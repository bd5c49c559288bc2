pub mod Answers
pub mod Gaps
pub mod Meeting
pub mod Places
pub mod Root
pub mod Slots
pub mod Switches
