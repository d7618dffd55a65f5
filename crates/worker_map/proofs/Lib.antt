pub mod Rising
pub mod Failed
pub mod Settles
mod Skips
pub mod Joins
pub mod Finish
