pub mod Result
pub mod Step
pub mod Show
pub mod Reset
