pub mod Marked
pub mod Newly
pub mod Stepped
pub mod Taken
pub mod Cases
pub mod Ran
pub mod Proved
