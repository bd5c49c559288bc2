pub mod Added
pub mod Documents
pub mod Taken
pub mod Laws
pub mod Lists
