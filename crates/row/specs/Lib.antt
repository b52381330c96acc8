pub mod Row
pub mod Statements
