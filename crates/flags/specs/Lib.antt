pub mod Width
pub mod Undefined
pub mod Flag
pub mod Condition
pub mod Sums
pub mod Meaning
pub mod Known
