pub mod AskLaws
pub mod CursorLaws
pub mod LoadingLaws
pub mod SearchLaws
