pub mod Rules
pub mod Putting
mod CanonLaws
mod Joins
mod Covering
pub mod StepLaws
mod Assembly
pub mod Reported
mod Examples
