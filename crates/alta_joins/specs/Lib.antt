pub mod Contents
pub mod Damages
pub mod Jobs
pub mod Newest
pub mod Reading
