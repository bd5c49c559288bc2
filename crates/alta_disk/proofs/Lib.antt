mod FillLaws
pub mod ImageLaws
pub mod Moments
pub mod PartLaws
mod Pushed
