pub mod Counter
pub mod Fed
