pub mod Behind
pub mod Cells
mod ContentRows
pub mod Contents
pub mod Copied
pub mod Drained
pub mod Ends
pub mod Keyed
pub mod Live
pub mod Made
pub mod One
pub mod Part
pub mod Prefixes
pub mod Read
