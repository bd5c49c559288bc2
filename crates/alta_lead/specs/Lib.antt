pub mod Followed
pub mod Having
pub mod HavingLaws
pub mod Moves
pub mod Rounds
pub mod Tallying
pub mod View
