pub mod Metas
pub mod Disagreements
pub mod Bindings
pub mod Rounds
pub mod Grounds
