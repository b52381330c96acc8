pub mod Text
pub mod Grown
