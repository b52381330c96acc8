pub mod State
pub mod Register
pub mod Named
pub mod Naming
pub mod Names
pub mod Sound
pub mod Sr
pub mod inner
