pub mod SetLaws
pub mod Stacking
pub mod Running
