pub mod Leaves
pub mod Forms
pub mod Steps
pub mod Undone
