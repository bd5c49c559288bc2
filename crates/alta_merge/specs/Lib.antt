pub mod Besides
pub mod Fronts
pub mod Merging
