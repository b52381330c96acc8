pub mod Once
pub mod Many
pub mod inner
