pub mod Runs
pub mod Numbers
pub mod Comments
pub mod Headers
pub mod Tokens
pub mod Fits
pub mod Laid
pub mod Faults
