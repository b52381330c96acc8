pub mod Lent
pub mod Field
