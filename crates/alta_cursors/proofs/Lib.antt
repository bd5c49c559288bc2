pub mod CursorAnswers
pub mod CursorNumbers
