pub mod Conjoined
pub mod Drafted
pub mod Puts
pub mod Space
pub mod View
pub mod Whole
pub mod Listing
