pub mod Exec
pub mod inner
