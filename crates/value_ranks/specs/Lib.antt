pub mod Sides
pub mod Ranked
