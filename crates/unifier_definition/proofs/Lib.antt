pub mod Substituted
pub mod Differs
pub mod Rounds
mod Walked
mod Contracts
mod Worked
