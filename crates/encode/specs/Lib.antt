pub mod One
pub mod inner
