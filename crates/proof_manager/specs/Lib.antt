pub mod Reading
pub mod Runs
pub mod Caching
pub mod Judging
pub mod Status
pub mod Causes
