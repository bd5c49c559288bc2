pub mod Besides
pub mod Nexts
pub mod Taken
pub mod Takes
