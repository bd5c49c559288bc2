pub mod Entry
pub mod Found
pub mod Journal
pub mod Lent
pub mod Placed
pub mod Places
pub mod Reading
pub mod Record
