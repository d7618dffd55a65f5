pub mod Fresh
pub mod Atoms
pub mod Tasks
