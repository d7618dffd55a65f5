pub mod Raising
pub mod Listing
pub mod Giving
pub mod Same
pub mod Closed
