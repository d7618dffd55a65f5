pub mod Scope
pub mod Kept
pub mod Names
pub mod Known
pub mod Visits
pub mod Resolution
pub mod Finished
