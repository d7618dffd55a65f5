pub mod Counting
pub mod Nodes
pub mod Symbols
pub mod Expressions
pub mod Clauses
pub mod Modules
pub mod Reading
