pub mod Compute
pub mod inner
