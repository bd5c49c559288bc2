pub mod Names
pub mod Asked
pub mod Laws
pub mod Seen
pub mod Shown
