pub mod Moved
pub mod Walks
pub mod Places
