pub mod AnyUse
pub mod Counted
pub mod Kept
pub mod Locations
pub mod Reads
pub mod Scoring
