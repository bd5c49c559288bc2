pub mod Brings
pub mod Calls
pub mod Comes
pub mod Drafts
pub mod Places
pub mod Puts
pub mod Rewrites
