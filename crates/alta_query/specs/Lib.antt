pub mod Fronts
pub mod Laws
pub mod Pieces
pub mod View
pub mod Kept
pub mod Answer
pub mod Texts
pub mod Values
