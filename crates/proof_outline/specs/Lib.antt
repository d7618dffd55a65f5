pub mod Outline
pub mod Kept
pub mod Visits
