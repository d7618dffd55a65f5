pub mod Formulas
pub mod Valuations
pub mod Laws
