pub mod Stack
pub mod inner
