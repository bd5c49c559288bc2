pub mod Counts
pub mod Law
pub mod Readings
pub mod Refusals
pub mod Phrases
pub mod Titles
pub mod Nears
pub mod Decided
