pub mod Sound
pub mod Lists
pub mod Through
pub mod Laying
pub mod Held
pub mod Laws
pub mod Finds
pub mod Ends
