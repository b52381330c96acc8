pub mod Place
pub mod Parity
