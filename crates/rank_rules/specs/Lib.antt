pub mod Ranked
pub mod Deriving
