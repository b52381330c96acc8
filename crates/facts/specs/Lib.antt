pub mod Touched
pub mod Statements
pub mod Banks
pub mod Where
pub mod Marks
pub mod Levels
pub mod ByCode
pub mod Halves
