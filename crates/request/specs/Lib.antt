pub mod Request
pub mod Statements
pub mod inner
