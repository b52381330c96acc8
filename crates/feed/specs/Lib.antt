pub mod Scale
pub mod Cycle
pub mod Division
pub mod Tables
pub mod Cases
pub mod TableCases
pub mod inner
