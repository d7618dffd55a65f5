pub mod Rebuilt
pub mod Walk
