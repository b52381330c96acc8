pub mod Offer
pub mod History
pub mod Return
