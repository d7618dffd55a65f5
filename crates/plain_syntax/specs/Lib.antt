pub mod Plain
pub mod Syntax
pub mod Order
