pub mod Among
pub mod ByUses
pub mod Ranks
pub mod RowScores
pub mod SameTests
pub mod ScoredRows
pub mod Scorers
pub mod Tops
