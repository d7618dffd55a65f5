pub mod Cases
pub mod Lefts
pub mod Values
pub mod Shown
