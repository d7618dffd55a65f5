pub mod Values
pub mod Came
pub mod Forms
pub mod Judging
pub mod Stopping
pub mod Filling
pub mod Plans
pub mod Laws
