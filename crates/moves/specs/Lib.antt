pub mod Moves
pub mod Statements
pub mod inner
