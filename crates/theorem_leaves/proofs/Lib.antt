mod Walks
mod KeyLaws
mod Statements
mod Facts
mod Moves
mod Defined
pub mod Walking
pub mod Stepping
pub mod Runs
pub mod Proofs
pub mod Outlines
pub mod Gathered
pub mod Cited
pub mod Citing
pub mod Passing
pub mod Reading
pub mod Reports
pub mod Theorems
pub mod Reached
