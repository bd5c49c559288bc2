pub mod Seen
pub mod Phrase
pub mod Near
