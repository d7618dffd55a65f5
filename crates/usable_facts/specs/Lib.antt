pub mod Keys
pub mod Proofs
pub mod Definitions
pub mod Theorems
