pub mod Marks
pub mod News
pub mod States
pub mod Sides
pub mod Translated
