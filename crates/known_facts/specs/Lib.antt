pub mod Shown
pub mod Binding
pub mod Grown
pub mod Clean
pub mod Forms
