pub mod Open
pub mod View
