pub mod Lines
pub mod Statements
