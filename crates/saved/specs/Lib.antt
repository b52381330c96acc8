pub mod Record
pub mod Statements
