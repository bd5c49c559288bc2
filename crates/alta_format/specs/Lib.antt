pub mod Format
pub mod Gives
