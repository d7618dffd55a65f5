pub mod Keeping
pub mod Phrases
pub mod Parts
pub mod Order
