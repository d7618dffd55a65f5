pub mod Symbols
pub mod Scoped
