pub mod Near
pub mod Stands
pub mod Walk
pub mod Chained
