pub mod Replies
pub mod Refusals
pub mod Answers
pub mod Returns
