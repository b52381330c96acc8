pub mod Calls
pub mod Statements
pub mod Demand
