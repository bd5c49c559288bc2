pub mod Giving
pub mod Lines
pub mod Memory
pub mod Replies
pub mod Sizes
pub mod Transcript
