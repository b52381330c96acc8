pub mod Numbers
pub mod Laws
pub mod RoundTrip
pub mod Refusals
pub mod Marked
