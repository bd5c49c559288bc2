pub mod Above
pub mod Encoding
pub mod Reading
pub mod Short
pub mod Filling
pub mod Tally
pub mod Growing
pub mod Lasts
