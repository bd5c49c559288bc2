pub mod Asked
pub mod ByLevel
pub mod Counted
pub mod Either
pub mod Titled
pub mod Stems
pub mod Live
pub mod Walking
