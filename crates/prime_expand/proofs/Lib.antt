mod Rows
mod Heads
mod Ways
mod Envs
mod Tasks
mod Nodes
pub mod CoreFine
