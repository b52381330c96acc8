pub mod Control
pub mod Undone
