pub mod Asks
pub mod Loading
pub mod Replies
pub mod Turns
