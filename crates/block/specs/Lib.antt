pub mod Block
pub mod inner
