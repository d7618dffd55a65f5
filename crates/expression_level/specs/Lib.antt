pub mod Levels
pub mod Primed
pub mod Weights
pub mod Store
pub mod Scope
