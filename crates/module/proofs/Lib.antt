pub mod Laws
pub mod Records
pub mod Requests
pub mod Settled
pub mod Demand
