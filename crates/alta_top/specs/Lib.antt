pub mod Best
pub mod Ranking
pub mod Scoring
