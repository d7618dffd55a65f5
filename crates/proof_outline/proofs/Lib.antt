mod Shadows
mod Proofs
