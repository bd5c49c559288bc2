pub mod Moves
pub mod Repair
pub mod Setting
pub mod Settling
pub mod Solution
pub mod Bounds
