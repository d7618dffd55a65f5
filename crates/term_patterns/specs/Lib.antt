pub mod Abstracted
pub mod Depths
pub mod Walked
