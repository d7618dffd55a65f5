pub mod Keys
pub mod Tables
pub mod Rows
pub mod Shared
pub mod Proofs
pub mod Tasks
pub mod Laws
