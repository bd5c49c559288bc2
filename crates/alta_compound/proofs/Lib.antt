pub mod Costs
pub mod Heaps
pub mod Moving
pub mod Permuted
pub mod InStep
pub mod Staying
