pub mod Apart
pub mod Contents
pub mod Documents
pub mod Elements
pub mod Folds
pub mod Gathered
mod JoinRows
pub mod Kept
pub mod Order
pub mod Outside
pub mod Packs
pub mod Ranges
pub mod Rises
pub mod Searches
pub mod SideBySide
pub mod Walks
pub mod Behind
pub mod Levels
