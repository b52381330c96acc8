pub mod Times
pub mod ManySteps
pub mod First
pub mod Named
