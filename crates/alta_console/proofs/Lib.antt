pub mod GivingLaws
pub mod Laws
pub mod LineLaws
mod MemoryLaws
pub mod ReplyLaws
pub mod RunLaws
