pub mod Sound
pub mod Bits
pub mod Laws
pub mod Fields
pub mod Naming
pub mod Valid
pub mod Sr
pub mod Names
mod Examples
