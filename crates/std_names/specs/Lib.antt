pub mod Operators
pub mod Libraries
