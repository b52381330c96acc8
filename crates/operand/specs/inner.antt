pub mod Does
pub mod Placed
