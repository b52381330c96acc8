pub mod Ends
pub mod Six
