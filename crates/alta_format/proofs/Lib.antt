pub mod FormatLaws
pub mod EntryLaws
