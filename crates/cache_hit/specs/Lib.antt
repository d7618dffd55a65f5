pub mod Correctness
pub mod Hits
pub mod Laws
