pub mod Binding
pub mod Heads
pub mod Growing
pub mod Cleaning
