pub mod Shapes
pub mod Written
pub mod Inferences
pub mod Seen
